-- Bytes taken or appended twice are taken or appended at once.
use Rattle.std.proofs.Common.{◌≡◌, ℕ, length-append, ◌+◌, ◌≤◌, List, [], ◌++◌, length, take, drop, Option, Some, None, refl}
use Rattle.std.proofs.Common.{sym, ◌∙◌, ap, arith, append_assoc, length-drop, ◌-◌, subst}
use Rattle.std.proofs.lemmas.Grind.{common_steps}
use Rattle.std.proofs.lemmas.List.{take_rest}
use Rattle.std.proofs.Math.Seq.{take-add}
use Rattle.port_io.specs.Bytes.{Took, TookExactly, TookAtMost, Appended}

pub took_nothing : (a : Option (List ℕ)) → Took a a []
took_nothing None = tt
took_nothing (Some a) = refl

pub took_more : (a b c : Option (List ℕ)) (p q : List ℕ) → Took a b p → Took b c q → Took a c (p ++ q)
took_more None b c p q h k = tt
took_more (Some a) None c p q h k = absurd h
took_more (Some a) (Some b) None p q h k = absurd k
took_more (Some a) (Some b) (Some c) p q h k = h ∙ ap (λ r. p ++ r) k ∙ sym (append_assoc p q c)

pub appended_nothing : (a : Option (List ℕ)) → Appended a a []
appended_nothing None = tt
appended_nothing (Some a) = grind (arith, common_steps)

pub appended_more : (a b c : Option (List ℕ)) (p q : List ℕ) → Appended a b p → Appended b c q → Appended a c (p ++ q)
appended_more None b c p q h k = tt
appended_more (Some a) None c p q h k = absurd h
appended_more (Some a) (Some b) None p q h k = absurd k
appended_more (Some a) (Some b) (Some c) p q h k = k ∙ ap (λ r. r ++ q) h ∙ append_assoc a p q

pub piece_length : (p : List ℕ) (d : ℕ) → d ≤ length p → length (take (length p - d) (drop d p)) ≡ length p - d
piece_length p d h = ap length (take_rest p d) ∙ length-drop d p

pub take_on : (p : List ℕ) (d n : ℕ) → d + n ≤ length p → take d p ++ take n (take (length p - d) (drop d p)) ≡ take (d + n) p
take_on p d n h = ap (λ r. take d p ++ take n r) (take_rest p d) ∙ sym (take-add d n p)

pub took_is : (a b : Option (List ℕ)) (p q : List ℕ) → p ≡ q → Took a b p → Took a b q
took_is a b p q e h = let P : List ℕ → Type 0 = λ r. Took a b r in subst P e h

pub appended_is : (a b : Option (List ℕ)) (p q : List ℕ) → p ≡ q → Appended a b p → Appended a b q
appended_is a b p q e h = let P : List ℕ → Type 0 = λ r. Appended a b r in subst P e h

-- bytes taken, and then so many more
pub took_exactly : (a b c : Option (List ℕ)) (p : List ℕ) (n : ℕ) → Took a b p → TookExactly n b c → TookExactly (length p + n) a c
took_exactly a b c p n first (more, long, then) =
    (p ++ more, length-append p more ∙ ap (λ k. length p + k) long, took_more a b c p more first then)

-- bytes taken, and then others, which are no more than so many together
pub took_at_most : (a b c : Option (List ℕ)) (p q : List ℕ) (n : ℕ) → Took a b p → Took b c q → length p + length q ≤ n → TookAtMost n a c
took_at_most a b c p q n first then few = (p ++ q, omega (arith, length-append p q, few), took_more a b c p q first then)
