-- The forms of the terms that are put of a device.
use Rattle.std.proofs.Common.{◌≡◌, ◌≢◌, ◌≤◌, ℕ, ◌-◌, ◌%◌, ◌<◌, ◌⊎◌, inl, inr, Bool, true, false, cond, List, [], ◌∷◌}
use Rattle.std.proofs.Common.{◌++◌, length, codes, nat_eq, refl, ap, ◌∙◌, arith}
use Rattle.std.specs.List.{AllByRecursion}
use Rattle.std.specs.Str.{bytes_eq}
use Rattle.std.proofs.lemmas.Bool.{eqb-false}
use Rattle.std.proofs.lemmas.List.Folds.{list_any_at}
use Rattle.mixed_model.specs.Names.{has_name}
use Rattle.term_model.specs.Putting.{CountsAsTerm}
use Rattle.term_model.specs.Terms.{Term, constant, symbol, dotted}
use Rattle.term_model.proofs.Lists.{all-append}
use Rattle.netlist_devices.specs.declared.kind.DeviceKind.{DeviceKind}
use Rattle.netlist_devices.specs.declared.kind.DeviceKind.TheVariants.{Passive, Voltage, Current, VoltageByVoltage}
use Rattle.netlist_devices.specs.declared.kind.DeviceKind.TheVariants.{CurrentByVoltage, CurrentByCurrent}
use Rattle.netlist_devices.specs.declared.kind.DeviceKind.TheVariants.{VoltageByCurrent, Opamp, Transformer, Gyrator}
use Rattle.netlist_devices.specs.Devices.{Device, is_ground, ground, has_source, nodes_wanted}
use Rattle.netlist_devices.specs.EquationNames.{equation_words, unknown_words}
use Rattle.netlist_reader.specs.Terms.{own, node, node_voltage, node_current, difference, current_terms, proportion}
use Rattle.netlist_reader.specs.Putting.{put_by, put_constant, put_difference, put_flow, put_voltage}
use Rattle.netlist_reader.proofs.Parts.{put_branch, put_branch_between, put_control, put_ratio, put_two_branches}
use Rattle.mixed_model.proofs.NameLaws.{bytes_eq-refl}

-- a node of a device that is not the ground
pub record IsNodeOf (d : Device) (node : List ℕ) : Type 0 where
  pub there : has_name d.nodes node ≡ true
  pub above : is_ground node ≡ false

-- Where a term of a device stands: in an equation of its own at an unknown of its own, at the voltage of a node, or
-- at the
-- current of its source; or in the equation of a node at a current of its own.
pub record OwnPlace (d : Device) (term : Term) : Type 0 where
  pub equation_word : List ℕ
  pub unknown_word : List ℕ
  pub equation_there : has_name (equation_words d.kind) equation_word ≡ true
  pub unknown_there : has_name (unknown_words d.kind) unknown_word ≡ true
  pub equation : term.equation ≡ own d equation_word
  pub unknown : term.unknown ≡ own d unknown_word

pub record VoltagePlace (d : Device) (term : Term) : Type 0 where
  pub equation_word : List ℕ
  pub node : List ℕ
  pub equation_there : has_name (equation_words d.kind) equation_word ≡ true
  pub node_is : IsNodeOf d node
  pub equation : term.equation ≡ own d equation_word
  pub unknown : term.unknown ≡ dotted (codes "u") node

pub record CurrentPlace (d : Device) (term : Term) : Type 0 where
  pub unknown_word : List ℕ
  pub node : List ℕ
  pub unknown_there : has_name (unknown_words d.kind) unknown_word ≡ true
  pub node_is : IsNodeOf d node
  pub equation : term.equation ≡ dotted (codes "kcl") node
  pub unknown : term.unknown ≡ own d unknown_word

pub record SourcePlace (d : Device) (term : Term) : Type 0 where
  pub source : has_source d.kind ≡ true
  pub law_there : has_name (equation_words d.kind) (codes "law") ≡ true
  pub equation : term.equation ≡ own d (codes "law")
  pub unknown : term.unknown ≡ dotted (codes "i") d.source

abbrev pub Place : Device → Term → Type 0
Place d term = OwnPlace d term ⊎ (VoltagePlace d term ⊎ (CurrentPlace d term ⊎ SourcePlace d term))

pub record HasForm (d : Device) (term : Term) : Type 0 where
  pub put : CountsAsTerm term
  pub place : Place d term

abbrev pub HaveForms : Device → List Term → Type 0
HaveForms d terms = AllByRecursion (HasForm d) terms

module _ (p : ℕ) (d : Device) (big : 2 < p) where
  one_is : ◌≢◌ {A = ℕ} 1 0
  one_is e = omega (arith, e)

  less_is : ◌≢◌ {A = ℕ} (p - 1) 0
  less_is e = omega (arith, e, big)

  both : (xs ys : List Term) → HaveForms d xs → HaveForms d ys → HaveForms d (xs ++ ys)
  both = all-append (HasForm d)

  own_constant : (we wu : List ℕ) (n : ℕ) → has_name (equation_words d.kind) we ≡ true →
      has_name (unknown_words d.kind) wu ≡ true → n ≢ 0 → HasForm d (constant (own d we) (own d wu) n)
  own_constant we wu n e u some = record {
    put = λ none. some;
    place = inl (record { equation_word = we; unknown_word = wu; equation_there = e; unknown_there = u; equation = refl; unknown = refl });
  }

  own_symbol : (wu : List ℕ) → has_name (equation_words d.kind) (codes "law") ≡ true →
      has_name (unknown_words d.kind) wu ≡ true → HasForm d (symbol (own d (codes "law")) (own d wu))
  own_symbol wu e u = record {
    put = λ none. absurd (true_false none);
    place = inl (record { equation_word = codes "law"; unknown_word = wu; equation_there = e; unknown_there = u; equation = refl; unknown = refl });
  }
    where
      true_false : true ≡ false → ⊥
      true_false e = cc

  source_symbol : has_name (equation_words d.kind) (codes "law") ≡ true → has_source d.kind ≡ true →
      HasForm d (symbol (own d (codes "law")) (dotted (codes "i") d.source))
  source_symbol e s = record {
    put = λ none. absurd (true_false none);
    place = inr (inr (inr (record { source = s; law_there = e; equation = refl; unknown = refl })));
  }
    where
      true_false : true ≡ false → ⊥
      true_false e = cc

  put_constant-form : (we wu : List ℕ) (n : ℕ) → has_name (equation_words d.kind) we ≡ true →
      has_name (unknown_words d.kind) wu ≡ true → HaveForms d (put_constant (own d we) (own d wu) n)
  put_constant-form we wu n e u = by (nat_eq n 0) refl
    where
      by : (b : Bool) → nat_eq n 0 ≡ b → HaveForms d (cond b [] (constant (own d we) (own d wu) n ∷ []))
      by true zero = tt
      by false some = (own_constant we wu n e u (eqb-false n 0 some), tt)

  voltage-form : (we n : List ℕ) (k : ℕ) → has_name (equation_words d.kind) we ≡ true → has_name d.nodes n ≡ true →
      k ≢ 0 → HaveForms d (node_voltage (own d we) k n)
  voltage-form we n k e there some = by (is_ground n) refl
    where
      by : (b : Bool) → is_ground n ≡ b → HaveForms d (cond b [] (constant (own d we) (dotted (codes "u") n) k ∷ []))
      by true g = tt
      by false g = (
        record {
          put = λ none. some;
          place = inr (inl (record {
            equation_word = we;
            node = n;
            equation_there = e;
            node_is =
                record { there = there; above = g };
            equation = refl;
            unknown = refl;
          }));
        },
        tt,
      )

  current-form : (wu n : List ℕ) (k : ℕ) → has_name (unknown_words d.kind) wu ≡ true → has_name d.nodes n ≡ true →
      k ≢ 0 → HaveForms d (node_current (own d wu) k n)
  current-form wu n k u there some = by (is_ground n) refl
    where
      by : (b : Bool) → is_ground n ≡ b → HaveForms d (cond b [] (constant (dotted (codes "kcl") n) (own d wu) k ∷ []))
      by true g = tt
      by false g = (
        record {
          put = λ none. some;
          place = inr (inr (inl (record {
            unknown_word = wu;
            node = n;
            unknown_there = u;
            node_is =
                record { there = there; above = g };
            equation = refl;
            unknown = refl;
          })));
        },
        tt,
      )

  difference-form : (we plus minus : List ℕ) → has_name (equation_words d.kind) we ≡ true →
      has_name d.nodes plus ≡ true → has_name d.nodes minus ≡ true →
      HaveForms d (put_difference p (own d we) plus minus)
  difference-form we plus minus e first second = by (bytes_eq plus minus)
    where
      by : (b : Bool) → HaveForms d (cond b [] (difference p (own d we) plus minus))
      by true = tt
      by false = both (node_voltage (own d we) 1 plus) (node_voltage (own d we) (p - 1) minus)
          (voltage-form we plus 1 e first one_is) (voltage-form we minus (p - 1) e second less_is)

  -- a current may enter the ground, whatever nodes there are
  leaving : (wu n : List ℕ) (k : ℕ) → has_name (unknown_words d.kind) wu ≡ true → (has_name d.nodes n ≡ true) ⊎
      (is_ground n ≡ true) → k ≢ 0 → HaveForms d (node_current (own d wu) k n)
  leaving wu n k u (inl there) some = current-form wu n k u there some
  leaving wu n k u (inr grounded) some = rw grounded tt

  flow-form : (wu plus minus : List ℕ) → has_name (unknown_words d.kind) wu ≡ true → has_name d.nodes plus ≡ true →
      (has_name d.nodes minus ≡ true) ⊎ (is_ground minus ≡ true) → HaveForms d (put_flow p (own d wu) plus minus)
  flow-form wu plus minus u first second = by (bytes_eq plus minus)
    where
      by : (b : Bool) → HaveForms d (cond b [] (current_terms p (own d wu) plus minus))
      by true = tt
      by false = both (node_current (own d wu) 1 plus) (node_current (own d wu) (p - 1) minus)
          (current-form wu plus 1 u first one_is) (leaving wu minus (p - 1) u second less_is)

  put_voltage-form : (we wu plus minus : List ℕ) → has_name (equation_words d.kind) we ≡ true →
      has_name (unknown_words d.kind) wu ≡ true → has_name d.nodes plus ≡ true → has_name d.nodes minus ≡ true →
      HaveForms d (put_voltage p (own d we) (own d wu) plus minus)
  put_voltage-form we wu plus minus e u first second = (own_constant we wu 1 e u one_is, difference-form we minus plus e second first)

  between-form : (we wv wi plus minus : List ℕ) → has_name (equation_words d.kind) we ≡ true →
      has_name (unknown_words d.kind) wv ≡ true → has_name (unknown_words d.kind) wi ≡ true →
      has_name d.nodes plus ≡ true → has_name d.nodes minus ≡ true →
      HaveForms d (put_branch_between p d we wv wi plus minus)
  between-form we wv wi plus minus e v i first second =
      both (put_voltage p (own d we) (own d wv) plus minus) (put_flow p (own d wi) plus minus)
      (put_voltage-form we wv plus minus e v first second) (flow-form wi plus minus i first (inl second))

  ratio-form : (a b x y : List ℕ) → has_name (equation_words d.kind) (codes "lawa") ≡ true →
      has_name (equation_words d.kind) (codes "lawb") ≡ true → has_name (unknown_words d.kind) a ≡ true →
      has_name (unknown_words d.kind) b ≡ true → has_name (unknown_words d.kind) x ≡ true →
      has_name (unknown_words d.kind) y ≡ true → HaveForms d (put_ratio p d a b x y)
  ratio-form a b x y la lb ua ub ux uy = (
    own_constant (codes "lawa") a 1 la ua one_is,
    both (put_constant (own d (codes "lawa")) (own d b) ((p - d.number) % p) ++ put_constant (own d (codes "lawb"))
        (own d x) d.number) (constant (own d (codes "lawb")) (own d y) 1 ∷ [])
        (both (put_constant (own d (codes "lawa")) (own d b) ((p - d.number) % p)) (put_constant (own d (codes "lawb")) (own d x) d.number)
        (put_constant-form (codes "lawa") b ((p - d.number) % p) la ub) (put_constant-form (codes "lawb") x d.number lb ux))
        (own_constant (codes "lawb") y 1 lb uy one_is, tt),
  )

  -- a node of a device is among its nodes
  node-there : (k : ℕ) → k < length d.nodes → has_name d.nodes (node d k) ≡ true
  node-there k within = list_any_at (bytes_eq (node d k)) d.nodes k [] within (bytes_eq-refl (node d k))

  module _ (kind : DeviceKind) (is : d.kind ≡ kind) (wanted : length d.nodes ≡ nodes_wanted kind) where
    has_equation : (word : List ℕ) → has_name (equation_words kind) word ≡ true → has_name (equation_words d.kind) word ≡ true
    has_equation word there = ap (λ k. has_name (equation_words k) word) is ∙ there

    has_unknown : (word : List ℕ) → has_name (unknown_words kind) word ≡ true → has_name (unknown_words d.kind) word ≡ true
    has_unknown word there = ap (λ k. has_name (unknown_words k) word) is ∙ there

    has_node : (k : ℕ) → k < nodes_wanted kind → has_name d.nodes (node d k) ≡ true
    has_node k within = node-there k (omega (arith, wanted, within))

  branch-form : (kind : DeviceKind) → d.kind ≡ kind → length d.nodes ≡ nodes_wanted kind → 2 ≤ nodes_wanted kind →
      has_name (equation_words kind) (codes "kvl") ≡ true → has_name (unknown_words kind) (codes "v") ≡ true →
      has_name (unknown_words kind) (codes "i") ≡ true → HaveForms d (put_branch p d)
  branch-form kind is wanted few e v i =
      between-form (codes "kvl") (codes "v") (codes "i") (node d 0) (node d 1)
      (has_equation kind is wanted (codes "kvl") e) (has_unknown kind is wanted (codes "v") v)
      (has_unknown kind is wanted (codes "i") i)
      (has_node kind is wanted 0 (omega (arith, few))) (has_node kind is wanted 1 (omega (arith, few)))

  control-form : (kind : DeviceKind) → d.kind ≡ kind → length d.nodes ≡ nodes_wanted kind → 4 ≤ nodes_wanted kind →
      has_name (equation_words kind) (codes "ctl") ≡ true → has_name (unknown_words kind) (codes "w") ≡ true →
      HaveForms d (put_control p d)
  control-form kind is wanted few e w =
      put_voltage-form (codes "ctl") (codes "w") (node d 2) (node d 3) (has_equation kind is wanted (codes "ctl") e) (has_unknown kind is wanted (codes "w") w)
      (has_node kind is wanted 2 (omega (arith, few))) (has_node kind is wanted 3 (omega (arith, few)))

  proportion-form : (kind : DeviceKind) → d.kind ≡ kind → length d.nodes ≡ nodes_wanted kind → (x y : List ℕ) →
      has_name (equation_words kind) (codes "law") ≡ true → has_name (unknown_words kind) x ≡ true →
      has_name (unknown_words kind) y ≡ true → HaveForms d (proportion d (own d x) (own d y))
  proportion-form kind is wanted x y e u v = (
    own_symbol x (has_equation kind is wanted (codes "law") e) (has_unknown kind is wanted x u),
    (own_symbol y (has_equation kind is wanted (codes "law") e) (has_unknown kind is wanted y v), tt),
  )

  source-form : (kind : DeviceKind) → d.kind ≡ kind → length d.nodes ≡ nodes_wanted kind → (x : List ℕ) →
      has_source kind ≡ true → has_name (equation_words kind) (codes "law") ≡ true →
      has_name (unknown_words kind) x ≡ true → HaveForms d (proportion d (own d x) (dotted (codes "i") d.source))
  source-form kind is wanted x s e u = (
    own_symbol x (has_equation kind is wanted (codes "law") e) (has_unknown kind is wanted x u),
    (source_symbol (has_equation kind is wanted (codes "law") e) (ap has_source is ∙ s), tt),
  )

  law-form : (kind : DeviceKind) → d.kind ≡ kind → length d.nodes ≡ nodes_wanted kind → (x : List ℕ) →
      has_name (equation_words kind) (codes "law") ≡ true → has_name (unknown_words kind) x ≡ true →
      HaveForms d (constant (own d (codes "law")) (own d x) 1 ∷ [])
  law-form kind is wanted x e u = (own_constant (codes "law") x 1 (has_equation kind is wanted (codes "law") e) (has_unknown kind is wanted x u) one_is, tt)

  branches-form : (kind : DeviceKind) → d.kind ≡ kind → length d.nodes ≡ nodes_wanted kind → 4 ≤ nodes_wanted kind →
      has_name (equation_words kind) (codes "kvla") ≡ true → has_name (equation_words kind) (codes "kvlb") ≡ true →
      has_name (unknown_words kind) (codes "va") ≡ true → has_name (unknown_words kind) (codes "ia") ≡ true →
      has_name (unknown_words kind) (codes "vb") ≡ true → has_name (unknown_words kind) (codes "ib") ≡ true →
      HaveForms d (put_two_branches p d)
  branches-form kind is wanted few ea eb va ia vb ib =
      both (put_branch_between p d (codes "kvla") (codes "va") (codes "ia") (node d 0) (node d 1))
      (put_branch_between p d (codes "kvlb") (codes "vb") (codes "ib") (node d 2) (node d 3))
      (between-form (codes "kvla") (codes "va") (codes "ia") (node d 0) (node d 1)
      (has_equation kind is wanted (codes "kvla") ea) (has_unknown kind is wanted (codes "va") va)
      (has_unknown kind is wanted (codes "ia") ia)
      (has_node kind is wanted 0 (omega (arith, few))) (has_node kind is wanted 1 (omega (arith, few))))
      (between-form (codes "kvlb") (codes "vb") (codes "ib") (node d 2) (node d 3)
      (has_equation kind is wanted (codes "kvlb") eb) (has_unknown kind is wanted (codes "vb") vb)
      (has_unknown kind is wanted (codes "ib") ib)
      (has_node kind is wanted 2 (omega (arith, few))) (has_node kind is wanted 3 (omega (arith, few))))

  -- each term that is put of a device has one of the forms
  pub forms : (kind : DeviceKind) → d.kind ≡ kind → length d.nodes ≡ nodes_wanted kind → HaveForms d (put_by p kind d)
  forms Passive is wanted = both (put_branch p d) (proportion d (own d (codes "v")) (own d (codes "i")))
      (branch-form Passive is wanted (omega arith) refl refl refl) (proportion-form Passive is wanted (codes "v")
      (codes "i") refl refl refl)
  forms Voltage is wanted = both (put_branch p d) (constant (own d (codes "law")) (own d (codes "v")) 1 ∷ [])
      (branch-form Voltage is wanted (omega arith) refl refl refl) (law-form Voltage is wanted (codes "v") refl refl)
  forms Current is wanted = both (put_branch p d) (constant (own d (codes "law")) (own d (codes "i")) 1 ∷ [])
      (branch-form Current is wanted (omega arith) refl refl refl) (law-form Current is wanted (codes "i") refl refl)
  forms VoltageByVoltage is wanted = both (put_branch p d ++ put_control p d)
      (proportion d (own d (codes "v")) (own d (codes "w"))) (both (put_branch p d) (put_control p d)
      (branch-form VoltageByVoltage is wanted (omega arith) refl refl refl) (control-form VoltageByVoltage is wanted
      (omega arith) refl refl)) (proportion-form VoltageByVoltage is wanted (codes "v") (codes "w") refl refl refl)
  forms CurrentByVoltage is wanted = both (put_branch p d ++ put_control p d)
      (proportion d (own d (codes "i")) (own d (codes "w"))) (both (put_branch p d) (put_control p d)
      (branch-form CurrentByVoltage is wanted (omega arith) refl refl refl) (control-form CurrentByVoltage is wanted
      (omega arith) refl refl)) (proportion-form CurrentByVoltage is wanted (codes "i") (codes "w") refl refl refl)
  forms CurrentByCurrent is wanted = both (put_branch p d)
      (proportion d (own d (codes "i")) (dotted (codes "i") d.source)) (branch-form CurrentByCurrent is wanted
      (omega arith) refl refl refl) (source-form CurrentByCurrent is wanted (codes "i") refl refl refl)
  forms VoltageByCurrent is wanted = both (put_branch p d)
      (proportion d (own d (codes "v")) (dotted (codes "i") d.source)) (branch-form VoltageByCurrent is wanted
      (omega arith) refl refl refl) (source-form VoltageByCurrent is wanted (codes "v") refl refl refl)
  forms Opamp is wanted =
      both (put_flow p (own d (codes "i")) (node d 2) ground) (put_difference p (own d (codes "law")) (node d 0) (node d 1))
      (flow-form (codes "i") (node d 2) ground (has_unknown Opamp is wanted (codes "i") refl) (has_node Opamp is wanted 2 (omega arith)) (inr refl))
      (difference-form (codes "law") (node d 0) (node d 1) (has_equation Opamp is wanted (codes "law") refl)
      (has_node Opamp is wanted 0 (omega arith)) (has_node Opamp is wanted 1 (omega arith)))
  forms Transformer is wanted = both (put_two_branches p d) (put_ratio p d (codes "va") (codes "vb") (codes "ia")
      (codes "ib")) (branches-form Transformer is wanted (omega arith) refl refl refl refl refl refl)
      (ratio-form (codes "va") (codes "vb") (codes "ia") (codes "ib")
      (has_equation Transformer is wanted (codes "lawa") refl)
      (has_equation Transformer is wanted (codes "lawb") refl)
      (has_unknown Transformer is wanted (codes "va") refl)
      (has_unknown Transformer is wanted (codes "vb") refl)
      (has_unknown Transformer is wanted (codes "ia") refl) (has_unknown Transformer is wanted (codes "ib") refl))
  forms Gyrator is wanted = both (put_two_branches p d) (put_ratio p d (codes "va") (codes "ib") (codes "ia")
      (codes "vb")) (branches-form Gyrator is wanted (omega arith) refl refl refl refl refl refl)
      (ratio-form (codes "va") (codes "ib") (codes "ia") (codes "vb")
      (has_equation Gyrator is wanted (codes "lawa") refl) (has_equation Gyrator is wanted (codes "lawb") refl)
      (has_unknown Gyrator is wanted (codes "va") refl) (has_unknown Gyrator is wanted (codes "ib") refl)
      (has_unknown Gyrator is wanted (codes "ia") refl) (has_unknown Gyrator is wanted (codes "vb") refl))

-- what is put has a symbol, or a constant other than 0
pub puts : (d : Device) (terms : List Term) → HaveForms d terms → AllByRecursion CountsAsTerm terms
puts d [] forms = tt
puts d (t ∷ terms) forms = (forms.0.put, puts d terms forms.1)
