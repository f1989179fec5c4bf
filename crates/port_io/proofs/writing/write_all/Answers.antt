use Rattle.std.proofs.Common.{◌≡◌, ℕ, ◌+◌, ◌-◌, ◌≤◌, length, take, drop, ◌∙◌, arith, subst, refl}
use Rattle.port_io.proofs.Chains.{piece_length, take_on, appended_more, appended_is}
use Rattle.port_io.proofs.writing.write_all.Goals as goal

pub loop-done-preserved : goal.loop-done-preserved
loop-done-preserved g c =
    let p = c.args.piece.now in let d = c.loop-done.done in let n = c.in-Ok.count in
    let part = take (length p - d) (drop d p) in
    let long : length part ≡ length p - d = piece_length p d c.loop-done.invariant.within in
    let fits : n ≤ length part = c.in-Ok.ensures.within in
    let within : d + n ≤ length p = omega (arith, long, fits, c.loop-done.invariant.within) in
    record {
      within = within;
      so_far = appended_is _ _ _ _ (take_on p d n within)
          (appended_more (g.K.Sink.written c.args.sink.now) (g.K.Sink.written c.loop-done.sink)
          (g.K.Sink.written c.write.new.self) (take d p) (take n part) c.loop-done.invariant.so_far
          c.in-Ok.ensures.appended);
      no_fault = c.in-Ok.ensures.cause.fine ∙ c.loop-done.invariant.no_fault;
      no_flush = c.write.ensures.no_flush ∙ c.loop-done.invariant.no_flush;
      steady = λ more h.
          let s = c.loop-done.invariant.steady more h in
          let e : d + length part ≡ length p = omega (arith, long, c.loop-done.invariant.within) in
          let t = c.in-Ok.ensures.steady more (s (length part) e) in
          λ rest r. let q : n + rest ≡ length part = omega (arith, r, long) in t.2 rest q;
    }

pub returns-in_default-clause-steady : goal.returns-in_default-clause-steady
returns-in_default-clause-steady g c = λ more h.
    let p = c.args.piece.now in let d = c.loop-done.done in
    let part = take (length p - d) (drop d p) in
    let long : length part ≡ length p - d = piece_length p d c.loop-done.invariant.within in
    let s = c.loop-done.invariant.steady more h in
    let e : d + length part ≡ length p = omega (arith, long, c.loop-done.invariant.within) in
    let t = c.in_default.ensures.steady more (s (length part) e) in
    let no : ⊥ = cc t.1 in
    absurd no

pub returns-clause-steady : goal.returns-clause-steady
returns-clause-steady g c = λ more h.
    let s = c.loop-done.invariant.steady more h in
    let e : c.loop-done.done + 0 ≡ length c.args.piece.now = omega (arith, c.loop-done.invariant.within, c.loop-done-test.false) in
    let t = s 0 e in
    (c.loop-done.invariant.no_fault, refl, let P : ℕ → Type 0 = λ r. g.K.Sink.takes c.loop-done.sink r in let z : 0 + more ≡ more = omega arith in subst P z t)
