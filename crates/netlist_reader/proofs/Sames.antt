-- Terms that say the same.
use Rattle.std.proofs.Common.{◌≡◌, ℕ, ◌+◌, ◌-◌, ◌%◌, ◌<◌, Bool, true, false, cond, ◌&&◌, ◌||◌, List, [], ◌∷◌, ◌++◌}
use Rattle.std.proofs.Common.{codes, nat_eq, get_or, refl, sym, ap, subst, ◌∙◌, arith}
use Rattle.std.specs.Str.{bytes_eq}
use Rattle.std.proofs.lemmas.Bool.{eqb-true}
use Rattle.std.proofs.lemmas.Grind.{flat_map-append}
use Rattle.std.proofs.lemmas.List.{append-nil}
use Rattle.std.proofs.lemmas.List.Concat.{flat_map-cons}
use Rattle.std.proofs.lemmas.Slice.Eq.{bytes_eq-Decides}
use Rattle.std.proofs.Math.Nat.{mod-mod, zero-mod, mod-eq_of_lt}
use Rattle.mixed_model.specs.Models.{MixedModel}
use Rattle.term_model.specs.Putting.{Says}
use Rattle.term_model.specs.Terms.{Term, stands_at, constant, dotted}
use Rattle.term_model.proofs.Sames.{AreSame, same, same-append, same-then, same-swap, cancels}
use Rattle.netlist_devices.specs.declared.kind.DeviceKind.{DeviceKind}
use Rattle.netlist_devices.specs.declared.kind.DeviceKind.TheVariants.{Passive, Voltage, Current, VoltageByVoltage}
use Rattle.netlist_devices.specs.declared.kind.DeviceKind.TheVariants.{CurrentByVoltage, CurrentByCurrent}
use Rattle.netlist_devices.specs.declared.kind.DeviceKind.TheVariants.{VoltageByCurrent, Opamp, Transformer, Gyrator}
use Rattle.netlist_devices.specs.Devices.{Device, is_ground, ground}
use Rattle.netlist_reader.specs.Terms.{own, node, difference, current_terms, voltage_is, branch_between, branch, two_branches, control}
use Rattle.netlist_reader.specs.Terms.{proportion, terms_by, terms_of}
use Rattle.netlist_reader.specs.Putting.{put_by, put_constant, put_difference, put_flow, put_voltage}
use Rattle.netlist_reader.proofs.Parts.{put_branch, put_branch_between, put_control, put_ratio, put_two_branches}

nothing_more : (n : ℕ) → 0 + n ≡ n
nothing_more n = omega arith

-- a term that is 0 leaves nothing
same-zero : (p : ℕ) (e u : List ℕ) (n m : ℕ) → n % p ≡ m → AreSame p (put_constant e u m) (constant e u n ∷ [])
same-zero p e u n m is = by (nat_eq m 0) refl
  where
    by : (b : Bool) → nat_eq m 0 ≡ b → AreSame p (cond b [] (constant e u m ∷ [])) (constant e u n ∷ [])
    by true zero = record {
      constants = λ equation unknown. here (stands_at equation unknown (constant e u n));
      symbols = λ equation unknown. none (stands_at equation unknown (constant e u n));
    }
      where
        here : (b : Bool) → 0 % p ≡ (0 + cond b n 0) % p
        here true = zero-mod p ∙ sym (eqb-true m 0 zero) ∙ sym is ∙ ap (λ k. k % p) (sym (nothing_more n))
        here false = refl

        none : (b : Bool) → false ≡ (b && false || false)
        none true = refl
        none false = refl
    by false some = record {
      constants = λ equation unknown. here (stands_at equation unknown (constant e u n));
      symbols = λ equation unknown. refl;
    }
      where
        here : (b : Bool) → (0 + cond b m 0) % p ≡ (0 + cond b n 0) % p
        here true = ap (λ k. (0 + k) % p) (sym is) ∙ ap (λ k. k % p) (nothing_more (n % p)) ∙ mod-mod n p ∙ ap (λ k. k % p) (sym (nothing_more n))
        here false = refl

-- both ends at one node
same-difference : (p : ℕ) (e plus minus : List ℕ) → 2 < p → AreSame p (put_difference p e plus minus) (difference p e plus minus)
same-difference p e plus minus big = by (bytes_eq plus minus) refl
  where
    at : (g : Bool) → AreSame p [] (cond g [] (constant e (dotted (codes "u") plus) 1 ∷ []) ++ cond g [] (constant e (dotted (codes "u") plus) (p - 1) ∷ []))
    at true = same p []
    at false = cancels p e (dotted (codes "u") plus) big

    by : (b : Bool) → bytes_eq plus minus ≡ b → AreSame p (cond b [] (difference p e plus minus)) (difference p e plus minus)
    by true one = subst (λ other. AreSame p [] (difference p e plus other)) ((bytes_eq-Decides plus minus).0 one) (at (is_ground plus))
    by false two = same p (difference p e plus minus)

same-flow : (p : ℕ) (current plus minus : List ℕ) → 2 < p → AreSame p (put_flow p current plus minus) (current_terms p current plus minus)
same-flow p current plus minus big = by (bytes_eq plus minus) refl
  where
    at : (g : Bool) → AreSame p [] (cond g [] (constant (dotted (codes "kcl") plus) current 1 ∷ []) ++ cond g []
        (constant (dotted (codes "kcl") plus) current (p - 1) ∷ []))
    at true = same p []
    at false = cancels p (dotted (codes "kcl") plus) current big

    by : (b : Bool) → bytes_eq plus minus ≡ b → AreSame p (cond b [] (current_terms p current plus minus)) (current_terms p current plus minus)
    by true one = subst (λ other. AreSame p [] (current_terms p current plus other)) ((bytes_eq-Decides plus minus).0 one) (at (is_ground plus))
    by false two = same p (current_terms p current plus minus)

module _ (p : ℕ) (d : Device) (big : 2 < p) (small : d.number < p) where
  same-voltage : (e v plus minus : List ℕ) → AreSame p (put_voltage p e v plus minus) (voltage_is p e v plus minus)
  same-voltage e v plus minus = same-append p (constant e v 1 ∷ []) (constant e v 1 ∷ [])
      (put_difference p e minus plus) (difference p e minus plus) (same p (constant e v 1 ∷ []))
      (same-difference p e minus plus big)

  same-between : (kvl v i plus minus : List ℕ) → AreSame p (put_branch_between p d kvl v i plus minus) (branch_between p d kvl v i plus minus)
  same-between kvl v i plus minus = same-append p (put_voltage p (own d kvl) (own d v) plus minus)
      (voltage_is p (own d kvl) (own d v) plus minus) (put_flow p (own d i) plus minus)
      (current_terms p (own d i) plus minus) (same-voltage (own d kvl) (own d v) plus minus)
      (same-flow p (own d i) plus minus big)

  same-branch : AreSame p (put_branch p d) (branch p d)
  same-branch = same-between (codes "kvl") (codes "v") (codes "i") (node d 0) (node d 1)

  same-branches : AreSame p (put_two_branches p d) (two_branches p d)
  same-branches = same-append p
      (put_branch_between p d (codes "kvla") (codes "va") (codes "ia") (node d 0) (node d 1))
      (branch_between p d (codes "kvla") (codes "va") (codes "ia") (node d 0) (node d 1))
      (put_branch_between p d (codes "kvlb") (codes "vb") (codes "ib") (node d 2) (node d 3))
      (branch_between p d (codes "kvlb") (codes "vb") (codes "ib") (node d 2) (node d 3))
      (same-between (codes "kvla") (codes "va") (codes "ia") (node d 0) (node d 1))
      (same-between (codes "kvlb") (codes "vb") (codes "ib") (node d 2) (node d 3))

  same-control : AreSame p (put_control p d) (control p d)
  same-control = same-voltage (own d (codes "ctl")) (own d (codes "w")) (node d 2) (node d 3)

  -- lawa and lawb: the number, and what is the number less than 0
  same-ratio : (a b x y : List ℕ) → AreSame p (put_ratio p d a b x y)
      (constant (own d (codes "lawa")) (own d a) 1 ∷ constant (own d (codes "lawa")) (own d b)
      (p - d.number) ∷ constant (own d (codes "lawb")) (own d x) d.number ∷ constant (own d (codes "lawb"))
      (own d y) 1 ∷ [])
  same-ratio a b x y =
      let first : List Term = constant (own d (codes "lawa")) (own d a) 1 ∷ [] in
      let last : List Term = constant (own d (codes "lawb")) (own d y) 1 ∷ [] in
      let negative : List Term = constant (own d (codes "lawa")) (own d b) (p - d.number) ∷ [] in
      let positive : List Term = constant (own d (codes "lawb")) (own d x) d.number ∷ [] in
      let put_negative : List Term = put_constant (own d (codes "lawa")) (own d b) ((p - d.number) % p) in
      let put_positive : List Term = put_constant (own d (codes "lawb")) (own d x) d.number in
      same-append p first first (put_negative ++ put_positive ++ last) (negative ++ positive ++ last) (same p first)
      (same-append p (put_negative ++ put_positive) (negative ++ positive) last last
      (same-append p put_negative negative put_positive positive
      (same-zero p (own d (codes "lawa")) (own d b) (p - d.number) ((p - d.number) % p) refl)
      (same-zero p (own d (codes "lawb")) (own d x) d.number d.number (mod-eq_of_lt {n = d.number} {m = p} small)))
      (same p last))

  after : (xs ys zs : List Term) → AreSame p xs ys → AreSame p (xs ++ zs) (ys ++ zs)
  after xs ys zs first = same-append p xs ys zs zs first (same p zs)

  -- what is put of a device says what the device says
  pub same-device : (kind : DeviceKind) → AreSame p (put_by p kind d) (terms_by p kind d)
  same-device Passive = after (put_branch p d) (branch p d) (proportion d (own d (codes "v")) (own d (codes "i"))) same-branch
  same-device Voltage = after (put_branch p d) (branch p d) (constant (own d (codes "law")) (own d (codes "v")) 1 ∷ []) same-branch
  same-device Current = after (put_branch p d) (branch p d) (constant (own d (codes "law")) (own d (codes "i")) 1 ∷ []) same-branch
  same-device VoltageByVoltage = after (put_branch p d ++ put_control p d) (branch p d ++ control p d)
      (proportion d (own d (codes "v")) (own d (codes "w"))) (same-append p (put_branch p d) (branch p d)
      (put_control p d) (control p d) same-branch same-control)
  same-device CurrentByVoltage = after (put_branch p d ++ put_control p d) (branch p d ++ control p d)
      (proportion d (own d (codes "i")) (own d (codes "w"))) (same-append p (put_branch p d) (branch p d)
      (put_control p d) (control p d) same-branch same-control)
  same-device CurrentByCurrent = after (put_branch p d) (branch p d) (proportion d (own d (codes "i")) (dotted (codes "i") d.source)) same-branch
  same-device VoltageByCurrent = after (put_branch p d) (branch p d) (proportion d (own d (codes "v")) (dotted (codes "i") d.source)) same-branch
  same-device Opamp = same-append p (put_flow p (own d (codes "i")) (node d 2) ground)
      (current_terms p (own d (codes "i")) (node d 2) ground) (put_difference p (own d (codes "law")) (node d 0) (node d 1))
      (difference p (own d (codes "law")) (node d 0) (node d 1))
      (same-flow p (own d (codes "i")) (node d 2) ground big) (same-difference p (own d (codes "law")) (node d 0)
      (node d 1) big)
  same-device Transformer = same-append p (put_two_branches p d) (two_branches p d)
      (put_ratio p d (codes "va") (codes "vb") (codes "ia") (codes "ib")) _ same-branches
      (same-ratio (codes "va") (codes "vb") (codes "ia") (codes "ib"))
  same-device Gyrator = same-append p (put_two_branches p d) (two_branches p d)
      (put_ratio p d (codes "va") (codes "ib") (codes "ia") (codes "vb")) _ same-branches
      (same-then p (put_ratio p d (codes "va") (codes "ib") (codes "ia") (codes "vb")) _ _ (same-ratio (codes "va") (codes "ib") (codes "ia") (codes "vb"))
      (same-append p (constant (own d (codes "lawa")) (own d (codes "va")) 1 ∷ constant (own d (codes "lawa"))
      (own d (codes "ib")) (p - d.number) ∷ []) _ _ _ (same p _)
      (same-swap p (constant (own d (codes "lawb")) (own d (codes "ia")) d.number ∷ []) (constant (own d (codes "lawb")) (own d (codes "vb")) 1 ∷ []))))

  -- a model that says what was put of one device more says what that device says
  pub says_device : (earlier : List Device) (model : MixedModel) →
      Says p (terms_of p earlier ++ put_by p d.kind d) model → Says p (terms_of p (earlier ++ d ∷ [])) model
  says_device earlier model says =
      let told = same-append p (terms_of p earlier) (terms_of p earlier) (put_by p d.kind d) (terms_by p d.kind d)
      (same p (terms_of p earlier)) (same-device d.kind) in
      let one : terms_of p (earlier ++ d ∷ []) ≡ terms_of p earlier ++ terms_by p d.kind d =
      flat_map-append (λ (device : Device). terms_by p device.kind device) earlier (d ∷ [])
      ∙ ap (λ last. terms_of p earlier ++ last) (flat_map-cons (λ (device : Device). terms_by p device.kind device) d [] ∙ append-nil (terms_by p d.kind d)) in
      subst (λ terms. Says p terms model) (sym one) record {
        constants = λ i j row column. says.constants i j row column ∙ told.constants (get_or model.equations i []) (get_or model.unknowns j []);
        symbols = λ i j row column. says.symbols i j row column ∙ told.symbols (get_or model.equations i []) (get_or model.unknowns j []);
      }
