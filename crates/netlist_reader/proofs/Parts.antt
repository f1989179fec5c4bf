-- The parts of what is put of a device, by its words.
use Rattle.std.proofs.Common.{ℕ, List, ◌++◌, codes}
use Rattle.term_model.specs.Terms.{Term}
use Rattle.netlist_devices.specs.Devices.{Device}
use Rattle.netlist_reader.specs.Terms.{own, node}
use Rattle.netlist_reader.specs.Putting.{put_between, put_laws, put_voltage}

abbrev pub put_branch_between : ℕ → Device → List ℕ → List ℕ → List ℕ → List ℕ → List ℕ → List Term
put_branch_between p d kvl voltage current plus minus =
    put_between p (own d kvl) (own d voltage) (own d current) plus minus

abbrev pub put_branch : ℕ → Device → List Term
put_branch p d = put_branch_between p d (codes "kvl") (codes "v") (codes "i") (node d 0) (node d 1)

abbrev pub put_two_branches : ℕ → Device → List Term
put_two_branches p d =
    put_branch_between p d (codes "kvla") (codes "va") (codes "ia") (node d 0) (node d 1)
    ++ put_branch_between p d (codes "kvlb") (codes "vb") (codes "ib") (node d 2) (node d 3)

abbrev pub put_control : ℕ → Device → List Term
put_control p d = put_voltage p (own d (codes "ctl")) (own d (codes "w")) (node d 2) (node d 3)

-- the terms of lawa and lawb: 1 and -n, n and 1
abbrev pub put_ratio : ℕ → Device → List ℕ → List ℕ → List ℕ → List ℕ → List Term
put_ratio p d first second third fourth =
    put_laws p (own d (codes "lawa")) (own d (codes "lawb")) (own d first) (own d second) (own d third) (own d fourth) d.number
