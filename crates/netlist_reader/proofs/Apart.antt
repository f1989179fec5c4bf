-- The terms that are put of a device stand at places of their own.
use Rattle.std.proofs.Common.{◌≡◌, ℕ, ◌-◌, ◌%◌, Bool, true, false, cond, List, [], ◌∷◌, ◌++◌, codes, nat_eq, refl, sym, subst, append_assoc}
use Rattle.std.specs.List.{AllByRecursion}
use Rattle.std.specs.Str.{bytes_eq}
use Rattle.term_model.specs.Putting.{AreFree}
use Rattle.term_model.specs.Terms.{Term, constant, symbol, dotted}
use Rattle.term_model.proofs.DottedNames.{differ}
use Rattle.term_model.proofs.Lists.{all-append}
use Rattle.term_model.proofs.Clearing.{bytes_eq-sym, Clear, Clears, joined, clear-equation, clear-unknown, clears, clears-both, clears-after}
use Rattle.netlist_devices.specs.declared.kind.DeviceKind.{DeviceKind}
use Rattle.netlist_devices.specs.declared.kind.DeviceKind.TheVariants.{Passive, Voltage, Current, VoltageByVoltage}
use Rattle.netlist_devices.specs.declared.kind.DeviceKind.TheVariants.{CurrentByVoltage, CurrentByCurrent}
use Rattle.netlist_devices.specs.declared.kind.DeviceKind.TheVariants.{VoltageByCurrent, Opamp, Transformer, Gyrator}
use Rattle.netlist_devices.specs.Devices.{Device, is_ground, ground, has_source}
use Rattle.netlist_reader.specs.Terms.{own, node, node_voltage, node_current, difference, current_terms, proportion}
use Rattle.netlist_reader.specs.Putting.{put_by, put_constant, put_difference, put_flow, put_voltage}
use Rattle.netlist_reader.proofs.Parts.{put_branch, put_branch_between, put_control, put_ratio, put_two_branches}

-- in an equation; and at an unknown in equations of nodes
abbrev On : List ℕ → Term → Type 0
On e t = t.equation ≡ e

record InNode (u : List ℕ) (t : Term) : Type 0 where
  node : List ℕ
  equation : t.equation ≡ dotted (codes "kcl") node
  unknown : t.unknown ≡ u

on-voltages : (e n : List ℕ) (k : ℕ) → AllByRecursion (On e) (node_voltage e k n)
on-voltages e n k = by (is_ground n)
  where
    by : (b : Bool) → AllByRecursion (On e) (cond b [] (constant e (dotted (codes "u") n) k ∷ []))
    by true = tt
    by false = (refl, tt)

on-difference : (p : ℕ) (e plus minus : List ℕ) → AllByRecursion (On e) (put_difference p e plus minus)
on-difference p e plus minus = by (bytes_eq plus minus)
  where
    by : (b : Bool) → AllByRecursion (On e) (cond b [] (difference p e plus minus))
    by true = tt
    by false = all-append (On e) (node_voltage e 1 plus) (node_voltage e (p - 1) minus) (on-voltages e plus 1) (on-voltages e minus (p - 1))

on-voltage : (p : ℕ) (e v plus minus : List ℕ) → AllByRecursion (On e) (put_voltage p e v plus minus)
on-voltage p e v plus minus = (refl, on-difference p e minus plus)

in-currents : (u n : List ℕ) (k : ℕ) → AllByRecursion (InNode u) (node_current u k n)
in-currents u n k = by (is_ground n)
  where
    by : (b : Bool) → AllByRecursion (InNode u) (cond b [] (constant (dotted (codes "kcl") n) u k ∷ []))
    by true = tt
    by false = (record { node = n; equation = refl; unknown = refl }, tt)

in-flow : (p : ℕ) (u plus minus : List ℕ) → AllByRecursion (InNode u) (put_flow p u plus minus)
in-flow p u plus minus = by (bytes_eq plus minus)
  where
    by : (b : Bool) → AllByRecursion (InNode u) (cond b [] (current_terms p u plus minus))
    by true = tt
    by false = all-append (InNode u) (node_current u 1 plus) (node_current u (p - 1) minus) (in-currents u plus 1) (in-currents u minus (p - 1))

-- parts whose equations differ
on-on : (e f : List ℕ) → bytes_eq f e ≡ false → (xs ys : List Term) → AllByRecursion (On e) xs → AllByRecursion (On f) ys → Clears xs ys
on-on e f other = clears (On e) (On f) (λ x y is_x is_y. clear-equation x y e f is_x is_y other)

on-node : (e u : List ℕ) → ((n : List ℕ) → bytes_eq (dotted (codes "kcl") n) e ≡ false) → (xs ys : List Term) →
    AllByRecursion (On e) xs → AllByRecursion (InNode u) ys → Clears xs ys
on-node e u other = clears (On e) (InNode u) (λ x y is_x is_y. clear-equation x y e (dotted (codes "kcl") is_y.node) is_x is_y.equation (other is_y.node))

node-on : (u e : List ℕ) → ((n : List ℕ) → bytes_eq e (dotted (codes "kcl") n) ≡ false) → (xs ys : List Term) →
    AllByRecursion (InNode u) xs → AllByRecursion (On e) ys → Clears xs ys
node-on u e other = clears (InNode u) (On e) (λ x y is_x is_y. clear-equation x y (dotted (codes "kcl") is_x.node) e is_x.equation is_y (other is_x.node))

node-node : (u v : List ℕ) → bytes_eq v u ≡ false → (xs ys : List Term) → AllByRecursion (InNode u) xs → AllByRecursion (InNode v) ys → Clears xs ys
node-node u v other = clears (InNode u) (InNode v) (λ x y is_x is_y. clear-unknown x y u v is_x.unknown is_y.unknown other)

-- each part by itself
one-free : (b : Bool) (t : Term) → AreFree [] (cond b [] (t ∷ []))
one-free true t = tt
one-free false t = (refl, tt)

two-free : (b c : Bool) (x y : Term) → Clear x y → AreFree [] (cond b [] (x ∷ []) ++ cond c [] (y ∷ []))
two-free true c x y clear = one-free c y
two-free false true x y clear = (refl, tt)
two-free false false x y clear = (refl, (rw clear refl, tt))

difference-free : (p : ℕ) (e plus minus : List ℕ) → AreFree [] (put_difference p e plus minus)
difference-free p e plus minus = by (bytes_eq plus minus) refl
  where
    by : (b : Bool) → bytes_eq plus minus ≡ b → AreFree [] (cond b [] (difference p e plus minus))
    by true same = tt
    by false other = two-free (is_ground plus) (is_ground minus) (constant e (dotted (codes "u") plus) 1) (constant e (dotted (codes "u") minus) (p - 1))
        (clear-unknown (constant e (dotted (codes "u") plus) 1) (constant e (dotted (codes "u") minus) (p - 1))
        (dotted (codes "u") plus) (dotted (codes "u") minus) refl refl
        (differ (dotted (codes "u") minus) (dotted (codes "u") plus) minus plus refl refl (bytes_eq-sym plus minus other)))

flow-free : (p : ℕ) (u plus minus : List ℕ) → AreFree [] (put_flow p u plus minus)
flow-free p u plus minus = by (bytes_eq plus minus) refl
  where
    by : (b : Bool) → bytes_eq plus minus ≡ b → AreFree [] (cond b [] (current_terms p u plus minus))
    by true same = tt
    by false other = two-free (is_ground plus) (is_ground minus) (constant (dotted (codes "kcl") plus) u 1) (constant (dotted (codes "kcl") minus) u (p - 1))
        (clear-equation (constant (dotted (codes "kcl") plus) u 1) (constant (dotted (codes "kcl") minus) u (p - 1))
        (dotted (codes "kcl") plus) (dotted (codes "kcl") minus) refl refl
        (differ (dotted (codes "kcl") minus) (dotted (codes "kcl") plus) minus plus refl refl (bytes_eq-sym plus minus other)))

-- the unknown of the term is none of the voltages of nodes
abbrev NoVoltage : List ℕ → Type 0
NoVoltage v = (n : List ℕ) → bytes_eq (dotted (codes "u") n) v ≡ false

first-clears : (e v n : List ℕ) (k : ℕ) → NoVoltage v → Clears (constant e v 1 ∷ []) (node_voltage e k n)
first-clears e v n k other = by (is_ground n)
  where
    by : (b : Bool) → Clears (constant e v 1 ∷ []) (cond b [] (constant e (dotted (codes "u") n) k ∷ []))
    by true = tt
    by false = ((clear-unknown (constant e v 1) (constant e (dotted (codes "u") n) k) v (dotted (codes "u") n) refl refl (other n), tt), tt)

voltage-free : (p : ℕ) (e v plus minus : List ℕ) → NoVoltage v → AreFree [] (put_voltage p e v plus minus)
voltage-free p e v plus minus other = joined (constant e v 1 ∷ []) (put_difference p e minus plus) (refl, tt)
    (difference-free p e minus plus) (by (bytes_eq minus plus))
  where
    by : (b : Bool) → Clears (constant e v 1 ∷ []) (cond b [] (difference p e minus plus))
    by true = tt
    by false = clears-after (constant e v 1 ∷ []) (node_voltage e 1 minus) (node_voltage e (p - 1) plus)
        (first-clears e v minus 1 other) (first-clears e v plus (p - 1) other)

module _ (p : ℕ) (d : Device) where
  -- an own equation is none of the nodes', and theirs are none of the own
  abbrev NoNode : List ℕ → Type 0
  NoNode w = ((n : List ℕ) → bytes_eq (dotted (codes "kcl") n) (own d w) ≡ false) × ((n : List ℕ) → bytes_eq (own d w) (dotted (codes "kcl") n) ≡ false)

  between-free : (we wv wi plus minus : List ℕ) → NoNode we → NoVoltage (own d wv) → AreFree [] (put_branch_between p d we wv wi plus minus)
  between-free we wv wi plus minus no_node no_voltage =
      joined (put_voltage p (own d we) (own d wv) plus minus) (put_flow p (own d wi) plus minus)
      (voltage-free p (own d we) (own d wv) plus minus no_voltage) (flow-free p (own d wi) plus minus)
      (on-node (own d we) (own d wi) no_node.0 (put_voltage p (own d we) (own d wv) plus minus)
      (put_flow p (own d wi) plus minus) (on-voltage p (own d we) (own d wv) plus minus)
      (in-flow p (own d wi) plus minus))

  -- a branch, and what stands in another own equation
  between-on : (we wv wi f plus minus : List ℕ) → bytes_eq (own d f) (own d we) ≡ false → NoNode f → (ys : List Term) →
      AllByRecursion (On (own d f)) ys → Clears (put_branch_between p d we wv wi plus minus) ys
  between-on we wv wi f plus minus other no_node ys on =
      clears-both (put_voltage p (own d we) (own d wv) plus minus) (put_flow p (own d wi) plus minus) ys
      (on-on (own d we) (own d f) other (put_voltage p (own d we) (own d wv) plus minus) ys (on-voltage p (own d we) (own d wv) plus minus) on)
      (node-on (own d wi) (own d f) no_node.1 (put_flow p (own d wi) plus minus) ys (in-flow p (own d wi) plus minus) on)

  branch-free : AreFree [] (put_branch p d)
  branch-free = between-free (codes "kvl") (codes "v") (codes "i") (node d 0) (node d 1) ((λ n. refl), (λ n. refl)) (λ n. refl)

  branch-law : (ys : List Term) → AreFree [] ys → AllByRecursion (On (own d (codes "law"))) ys → AreFree [] (put_branch p d ++ ys)
  branch-law ys free on = joined (put_branch p d) ys branch-free free (between-on (codes "kvl") (codes "v")
      (codes "i") (codes "law") (node d 0) (node d 1) refl ((λ n. refl), (λ n. refl)) ys on)

  proportion-free : (x y : List ℕ) → bytes_eq y x ≡ false → AreFree [] (proportion d x y)
  proportion-free x y other = (refl, (rw (clear-unknown (symbol (own d (codes "law")) x) (symbol (own d (codes "law")) y) x y refl refl other) refl, tt))

  controlled-free : (ys : List Term) → AreFree [] ys → AllByRecursion (On (own d (codes "law"))) ys → AreFree [] (put_branch p d ++ put_control p d ++ ys)
  controlled-free ys free on =
      joined (put_branch p d ++ put_control p d) ys
      (joined (put_branch p d) (put_control p d) branch-free (voltage-free p (own d (codes "ctl")) (own d (codes "w")) (node d 2) (node d 3) (λ n. refl))
      (between-on (codes "kvl") (codes "v") (codes "i") (codes "ctl") (node d 0) (node d 1) refl
      ((λ n. refl), (λ n. refl)) (put_control p d) (on-voltage p (own d (codes "ctl")) (own d (codes "w"))
      (node d 2) (node d 3))))
      free
      (clears-both (put_branch p d) (put_control p d) ys
      (between-on (codes "kvl") (codes "v") (codes "i") (codes "law") (node d 0) (node d 1) refl ((λ n. refl), (λ n. refl)) ys on)
      (on-on (own d (codes "ctl")) (own d (codes "law")) refl (put_control p d) ys
      (on-voltage p (own d (codes "ctl")) (own d (codes "w")) (node d 2) (node d 3)) on))

  two-branches-free : AreFree [] (put_two_branches p d)
  two-branches-free =
      joined first second
      (between-free (codes "kvla") (codes "va") (codes "ia") (node d 0) (node d 1) ((λ n. refl), (λ n. refl)) (λ n. refl))
      (between-free (codes "kvlb") (codes "vb") (codes "ib") (node d 2) (node d 3) ((λ n. refl), (λ n. refl)) (λ n. refl))
      (clears-after first (put_voltage p (own d (codes "kvlb")) (own d (codes "vb")) (node d 2) (node d 3))
      (put_flow p (own d (codes "ib")) (node d 2) (node d 3))
      (between-on (codes "kvla") (codes "va") (codes "ia") (codes "kvlb") (node d 0) (node d 1) refl
      ((λ n. refl), (λ n. refl)) (put_voltage p (own d (codes "kvlb")) (own d (codes "vb")) (node d 2)
      (node d 3)) (on-voltage p (own d (codes "kvlb")) (own d (codes "vb")) (node d 2) (node d 3)))
      (clears-both (put_voltage p (own d (codes "kvla")) (own d (codes "va")) (node d 0) (node d 1))
      (put_flow p (own d (codes "ia")) (node d 0) (node d 1)) (put_flow p (own d (codes "ib")) (node d 2)
      (node d 3))
      (on-node (own d (codes "kvla")) (own d (codes "ib")) (λ n. refl) (put_voltage p (own d (codes "kvla"))
      (own d (codes "va")) (node d 0) (node d 1)) (put_flow p (own d (codes "ib")) (node d 2) (node d 3))
      (on-voltage p (own d (codes "kvla")) (own d (codes "va")) (node d 0) (node d 1))
      (in-flow p (own d (codes "ib")) (node d 2) (node d 3)))
      (node-node (own d (codes "ia")) (own d (codes "ib")) refl (put_flow p (own d (codes "ia")) (node d 0)
      (node d 1)) (put_flow p (own d (codes "ib")) (node d 2) (node d 3))
      (in-flow p (own d (codes "ia")) (node d 0) (node d 1)) (in-flow p (own d (codes "ib")) (node d 2)
      (node d 3)))))
    where
      first : List Term
      first = put_branch_between p d (codes "kvla") (codes "va") (codes "ia") (node d 0) (node d 1)

      second : List Term
      second = put_branch_between p d (codes "kvlb") (codes "vb") (codes "ib") (node d 2) (node d 3)

  -- in lawa, or in lawb
  on-constant : (e u : List ℕ) (n : ℕ) → AllByRecursion (On e) (put_constant e u n)
  on-constant e u n = by (nat_eq n 0)
    where
      by : (b : Bool) → AllByRecursion (On e) (cond b [] (constant e u n ∷ []))
      by true = tt
      by false = (refl, tt)

  constant-free : (e u : List ℕ) (n : ℕ) → AreFree [] (put_constant e u n)
  constant-free e u n = one-free (nat_eq n 0) (constant e u n)

  constants-clear : (e u v : List ℕ) (k n : ℕ) → bytes_eq v u ≡ false → Clears (constant e u k ∷ []) (put_constant e v n)
  constants-clear e u v k n other = by (nat_eq n 0)
    where
      by : (b : Bool) → Clears (constant e u k ∷ []) (cond b [] (constant e v n ∷ []))
      by true = tt
      by false = ((clear-unknown (constant e u k) (constant e v n) u v refl refl other, tt), tt)

  put-clears : (e u v : List ℕ) (n : ℕ) → bytes_eq v u ≡ false → Clears (put_constant e u n) (constant e v 1 ∷ [])
  put-clears e u v n other = by (nat_eq n 0)
    where
      by : (b : Bool) → Clears (cond b [] (constant e u n ∷ [])) (constant e v 1 ∷ [])
      by true = (tt, tt)
      by false = ((clear-unknown (constant e u n) (constant e v 1) u v refl refl other, tt), tt)

  abbrev lawa : List ℕ
  lawa = own d (codes "lawa")

  abbrev lawb : List ℕ
  lawb = own d (codes "lawb")

  module _ (a b x y : List ℕ) (other : bytes_eq (own d b) (own d a) ≡ false) (others : bytes_eq (own d y) (own d x) ≡ false) where
    abbrev first : List Term
    first = constant lawa (own d a) 1 ∷ put_constant lawa (own d b) ((p - d.number) % p)

    abbrev last : List Term
    last = put_constant lawb (own d x) d.number ++ constant lawb (own d y) 1 ∷ []

    first-on : AllByRecursion (On lawa) first
    first-on = (refl, on-constant lawa (own d b) ((p - d.number) % p))

    last-on : AllByRecursion (On lawb) last
    last-on = all-append (On lawb) (put_constant lawb (own d x) d.number) (constant lawb (own d y) 1 ∷ []) (on-constant lawb (own d x) d.number) (refl, tt)

    first-free : AreFree [] first
    first-free = joined (constant lawa (own d a) 1 ∷ []) (put_constant lawa (own d b) ((p - d.number) % p))
        (refl, tt) (constant-free lawa (own d b) ((p - d.number) % p)) (constants-clear lawa (own d a) (own d b) 1
        ((p - d.number) % p) other)

    last-free : AreFree [] last
    last-free = joined (put_constant lawb (own d x) d.number) (constant lawb (own d y) 1 ∷ [])
        (constant-free lawb (own d x) d.number) (refl, tt) (put-clears lawb (own d x) (own d y) d.number others)

    ratio-is : first ++ last ≡ put_ratio p d a b x y
    ratio-is = sym (append_assoc first (put_constant lawb (own d x) d.number) (constant lawb (own d y) 1 ∷ []))

    ratio-free : AreFree [] (put_two_branches p d ++ put_ratio p d a b x y)
    ratio-free = subst (λ laws. AreFree [] (put_two_branches p d ++ laws)) ratio-is
        (joined (put_two_branches p d) (first ++ last) two-branches-free (joined first last first-free last-free
        (on-on lawa lawb refl first last first-on last-on))
        (clears-after (put_two_branches p d) first last
        (clears-both (put_branch_between p d (codes "kvla") (codes "va") (codes "ia") (node d 0) (node d 1))
        (put_branch_between p d (codes "kvlb") (codes "vb") (codes "ib") (node d 2) (node d 3)) first
        (between-on (codes "kvla") (codes "va") (codes "ia") (codes "lawa") (node d 0) (node d 1) refl ((λ n. refl), (λ n. refl)) first first-on)
        (between-on (codes "kvlb") (codes "vb") (codes "ib") (codes "lawa") (node d 2) (node d 3) refl ((λ n. refl), (λ n. refl)) first first-on))
        (clears-both (put_branch_between p d (codes "kvla") (codes "va") (codes "ia") (node d 0) (node d 1))
        (put_branch_between p d (codes "kvlb") (codes "vb") (codes "ib") (node d 2) (node d 3)) last
        (between-on (codes "kvla") (codes "va") (codes "ia") (codes "lawb") (node d 0) (node d 1) refl ((λ n. refl), (λ n. refl)) last last-on)
        (between-on (codes "kvlb") (codes "vb") (codes "ib") (codes "lawb") (node d 2) (node d 3) refl ((λ n. refl), (λ n. refl)) last last-on))))

  -- the terms that are put of a device that is not its own source
  pub device-free : (kind : DeviceKind) → (has_source kind ≡ true → bytes_eq d.source d.name ≡ false) → AreFree [] (put_by p kind d)
  device-free Passive apart = branch-law (proportion d (own d (codes "v")) (own d (codes "i")))
      (proportion-free (own d (codes "v")) (own d (codes "i")) refl) (refl, (refl, tt))
  device-free Voltage apart = branch-law (constant (own d (codes "law")) (own d (codes "v")) 1 ∷ []) (refl, tt) (refl, tt)
  device-free Current apart = branch-law (constant (own d (codes "law")) (own d (codes "i")) 1 ∷ []) (refl, tt) (refl, tt)
  device-free VoltageByVoltage apart = controlled-free (proportion d (own d (codes "v")) (own d (codes "w")))
      (proportion-free (own d (codes "v")) (own d (codes "w")) refl) (refl, (refl, tt))
  device-free CurrentByVoltage apart = controlled-free (proportion d (own d (codes "i")) (own d (codes "w")))
      (proportion-free (own d (codes "i")) (own d (codes "w")) refl) (refl, (refl, tt))
  device-free CurrentByCurrent apart = branch-law (proportion d (own d (codes "i")) (dotted (codes "i") d.source))
      (proportion-free (own d (codes "i")) (dotted (codes "i") d.source) (differ (dotted (codes "i") d.source)
      (own d (codes "i")) d.source d.name refl refl (apart refl))) (refl, (refl, tt))
  device-free VoltageByCurrent apart = branch-law (proportion d (own d (codes "v")) (dotted (codes "i") d.source))
      (proportion-free (own d (codes "v")) (dotted (codes "i") d.source) refl) (refl, (refl, tt))
  device-free Opamp apart =
      joined (put_flow p (own d (codes "i")) (node d 2) ground) (put_difference p (own d (codes "law")) (node d 0)
      (node d 1)) (flow-free p (own d (codes "i")) (node d 2) ground) (difference-free p (own d (codes "law"))
      (node d 0) (node d 1))
      (node-on (own d (codes "i")) (own d (codes "law")) (λ n. refl)
      (put_flow p (own d (codes "i")) (node d 2) ground) (put_difference p (own d (codes "law")) (node d 0)
      (node d 1)) (in-flow p (own d (codes "i")) (node d 2) ground) (on-difference p (own d (codes "law"))
      (node d 0) (node d 1)))
  device-free Transformer apart = ratio-free (codes "va") (codes "vb") (codes "ia") (codes "ib") refl refl
  device-free Gyrator apart = ratio-free (codes "va") (codes "ib") (codes "ia") (codes "vb") refl refl
