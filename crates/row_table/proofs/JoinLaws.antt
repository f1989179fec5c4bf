-- A row that joins a table: its items are put in, and multiples of the rows before it are added.
use Rattle.std.proofs.Common.{◌≡◌, ℕ, ◌+◌, ◌-◌, ◌*◌, ◌%◌, ◌<◌, ◌≢◌, cond, ltb, true, refl, ap, sym, ◌∙◌, arith}
use Rattle.std.proofs.Math.Nat.{mod_self}
use Rattle.std.proofs.lemmas.Bool.Decides.{nat_tests}
use Rattle.residue_theory.specs.Sums.{sum_below}
use Rattle.residue_theory.specs.Sets.{everything}
use Rattle.residue_theory.proofs.SumLaws.{sum_on-ext}
use Rattle.residue_theory.proofs.ResidueLaws.{agree-add, agree-mul, agree_of}
use Rattle.row_table.specs.TableEdits.{taken}
use Rattle.row_table.proofs.PutOffLaws.{sum-next}

below-next : (d c : ℕ) → d ≢ c → ltb d (c + 1) ≡ ltb d c
below-next d c ne = grind (arith, nat_tests)

below-last : (c : ℕ) → ltb c (c + 1) ≡ true
below-last c = grind (arith, nat_tests)

pub put-next : (d c x : ℕ) → d ≢ c → cond (ltb d c) x 0 ≡ cond (ltb d (c + 1)) x 0
put-next d c x ne = ap (λ b. cond b x 0) (sym (below-next d c ne))

pub put-last : (c x : ℕ) → x ≡ cond (ltb c (c + 1)) x 0
put-last c x = sym (ap (λ b. cond b x 0) (below-last c))

-- the multiple of a row that is added
pub reduced-here : (p n : ℕ) (basic x : ℕ → ℕ) (i c y z a b new : ℕ) → c ≡ basic i → c < n → y ≡ x c → y < p →
    (y + z) % p ≡ 0 → new % p ≡ (a + z * b) % p → new % p ≡ (a + taken p n basic x i * b) % p
reduced-here p n basic x i c y z a b new at cl item small opposite is =
    is ∙ agree-add p a a (z * b) (taken p n basic x i * b) refl
    (ap (λ k. k % p) (let q : z * b ≡ b * z = omega arith in q) ∙ agree-mul p b z (taken p n basic x i) same
    ∙ ap (λ k. k % p) (let q : b * taken p n basic x i ≡ taken p n basic x i * b = omega arith in q))
  where
    taken-is : taken p n basic x i ≡ p - y
    taken-is = ap (λ k. cond (ltb k n) (p - x k) 0) (sym at) ∙ chosen (p - x c) ∙ ap (λ k. p - k) (sym item)
      where
        chosen : (k : ℕ) → cond (ltb c n) k 0 ≡ k
        chosen k = grind (arith, nat_tests)

    same : z % p ≡ taken p n basic x i % p
    same = agree_of p z y (p - y) (ap (λ k. k % p) (let q : z + y ≡ y + z = omega arith in q) ∙ opposite)
        (ap (λ k. k % p) (let q : p - y + y ≡ p = omega arith in q) ∙ mod_self p)
        ∙ ap (λ k. k % p) (sym taken-is)

pub joined-next : (p i a f b new : ℕ) (d : ℕ → ℕ) (h : ℕ → ℕ) → new % p ≡ (a + d i * b) % p →
    a % p ≡ (f + sum_below i (λ k. d k * h k)) % p → b % p ≡ h i % p →
    new % p ≡ (f + sum_below (i + 1) (λ k. d k * h k)) % p
joined-next p i a f b new d h is so_far row =
    is ∙ agree-add p a (f + sum_below i (λ k. d k * h k)) (d i * b) (d i * h i) so_far (agree-mul p (d i) b (h i) row)
    ∙ ap (λ k. k % p) ((let q : f + sum_below i (λ k. d k * h k) + d i * h i ≡ f + (sum_below i (λ k. d k * h k) + d i * h i) =
    omega arith in q) ∙ ap (λ s. f + s) (sym (sum-next i (λ k. d k * h k))))

pub joins-told : (p m y z new : ℕ) (t h o : ℕ → ℕ) → new % p ≡ (y + sum_below m (λ i. t i * h i)) % p → y ≡ z →
    ((i : ℕ) → i < m → h i ≡ o i) → new % p ≡ (sum_below m (λ i. t i * o i) + z) % p
joins-told p m y z new t h o is same rows =
    is ∙ ap (λ k. k % p) (ap (λ k. k + sum_below m (λ i. t i * h i)) same
    ∙ ap (λ s. z + s) (sum_on-ext everything m (λ i. t i * h i) (λ i. t i * o i) (λ i il _. ap (λ k. t i * k) (rows i il)))
    ∙ (let q : z + sum_below m (λ i. t i * o i) ≡ sum_below m (λ i. t i * o i) + z = omega arith in q))
