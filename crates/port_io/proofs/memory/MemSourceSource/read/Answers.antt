use Rattle.std.proofs.Common.{◌≡◌, ℕ, ◌+◌, ◌-◌, List, ◌++◌, length, take, drop, ◌∙◌, arith, sym, ap, rules}
use Rattle.std.proofs.lemmas.Grind.{common_steps}
use Rattle.std.proofs.lemmas.List.{take_at, drop-drop, take-append-drop, take_rest}
use Rattle.port_io.specs.Memory.{MemorySource}
use Rattle.port_io.proofs.memory.MemSourceSource.read.Goals as goal

source_taken : (left b : List ℕ) (at n : ℕ) (w r : List ℕ) → drop at b ≡ left →
    w ≡ take n (take (length b - at) (drop at b)) → length w ≡ n → left ≡ take n (w ++ r) ++ drop (at + n) b
source_taken left b at n w r same e long =
    let front : take n (w ++ r) ≡ take n (drop at b) = take_at w r n long ∙ e ∙ ap (λ s. take n s) (take_rest b at) in
    let back : drop (at + n) b ≡ drop n (drop at b) = sym (drop-drop n at b) in
    sym same ∙ rw front (rw back (sym (take-append-drop n (drop at b))))

pub returns-clause-taken : goal.returns-clause-taken
returns-clause-taken c =
    let e = c.copy_from_slice.ensures in
    let l = c.copy_from_slice.auto.self in
    source_taken c.args.self.now.left c.self.inside.bytes.items c.self.inside.taken c.min-count.result
    c.copy_from_slice.new.self (drop c.min-count.result c.args.buffer.now)
    (ap (λ (s : MemorySource). s.left) c.self.view_is) (search rules) (grind (arith, common_steps))
