-- Lists in which each number stands once are told by the place of each number.
use Rattle.std.proofs.Common.{◌≡◌, ℕ, ◌+◌, ◌<◌, true, eqb, List, [], ◌∷◌, ◌++◌, length, map, get_or, sym, subst, ◌∙◌, arith}
use Rattle.std.specs.List.{All}
use Rattle.std.proofs.lemmas.List.{get_or_default, length-map, length-append}
use Rattle.std.proofs.lemmas.List.{same_lists}
use Rattle.std.proofs.lemmas.List.Elements.{All-append, All-cons, All-map, All-nil}
use Rattle.residue_theory.specs.Sums.{size_on}
use Rattle.residue_theory.proofs.SetLaws.{eqb_from, eqb_true}
use Rattle.residue_theory.proofs.SumLaws.{sum_on-same}
use Rattle.linear_algebra.specs.Parts.{in_part}
use Rattle.cert_text.specs.Contents.{Contents}
use Rattle.cert_text.specs.declared.part.CcfBlock.{CcfBlock}
use Rattle.cert_text.specs.declared.part.CcfPart.{CcfPart}
use Rattle.cert_text.specs.Ranges.{AreRising, IsCcf}
use Rattle.residue_theory.specs.Sets.{has}
use Rattle.cert_text.specs.Readings.{place_of, column_lists, q_row_lists, t_row_lists, StandsOnce}
use Rattle.cert_text.proofs.PrintedRules.{place-is}
use Rattle.certificate_laws.proofs.RisingLists.{members-counted, same-lists, same-tests}

-- ---- rising lists of one n
module _ (n : ℕ) (lists : List (List ℕ)) (rising : All (AreRising n) lists) (once : StandsOnce n lists) where
  pub held-place : (k x : ℕ) → x < n → k < length lists → has (get_or lists k []) x ≡ true → place_of lists x ≡ k
  held-place k x xl kl h = place-is n lists once x k xl kl h

  pub place-held : (k x : ℕ) → x < n → k < length lists → place_of lists x ≡ k → has (get_or lists k []) x ≡ true
  place-held k x xl kl e =
      let at = once.some x xl in
      subst (λ l. has (get_or lists l []) x ≡ true) (sym (held-place at.0 x xl at.1 at.2) ∙ e) at.2

  -- a list is as long as the numbers of its place are many
  pub place-counted : (k : ℕ) → k < length lists → length (get_or lists k []) ≡ size_on (in_part (place_of lists) k) n
  place-counted k kl = sym (members-counted n (get_or lists k []) (rising k [] kl))
      ∙ sum_on-same (has (get_or lists k [])) (in_part (place_of lists) k) n (λ _. 1)
      (λ x xl. same-tests (has (get_or lists k []) x) (eqb (place_of lists x) k)
      (λ h. eqb_from (place_of lists x) k (held-place k x xl kl h))
      (λ h. place-held k x xl kl (eqb_true (place_of lists x) k h)))

-- lists with the same places are one
pub same-places : (n : ℕ) (xs ys : List (List ℕ)) → All (AreRising n) xs → All (AreRising n) ys → StandsOnce n xs → StandsOnce n ys →
    length xs ≡ length ys → ((x : ℕ) → x < n → place_of xs x ≡ place_of ys x) → xs ≡ ys
same-places n xs ys one two once other long same = same_lists xs ys long
    (λ k d kl. get_or_default xs k d [] kl ∙ at k kl (subst (λ m. k < m) long kl) ∙ get_or_default ys k [] d (subst (λ m. k < m) long kl))
  where
    at : (k : ℕ) → k < length xs → k < length ys → get_or xs k [] ≡ get_or ys k []
    at k kl ll = same-lists n (get_or xs k []) (get_or ys k []) (one k [] kl) (two k [] ll)
        (λ x xl h. place-held n ys two other k x xl ll (sym (same x xl) ∙ held-place n xs one once k x xl kl h))
        (λ x xl h. place-held n xs one once k x xl kl (same x xl ∙ held-place n ys two other k x xl ll h))

-- ---- the lists of the printed parts
module _ (of : CcfPart → List ℕ) (n : ℕ) (c : Contents) where
  abbrev of_parts : List (List ℕ)
  of_parts = of c.first ∷ (map (λ (block : CcfBlock). of block.part) c.blocks ++ of c.last ∷ [])

  parts-long : length of_parts ≡ length c.blocks + 2
  parts-long =
      let f : CcfBlock → List ℕ = λ block. of block.part in
      omega (arith, length-map c.blocks f, length-append (map f c.blocks) (of c.last ∷ []))

  parts-rise : AreRising n (of c.first) → All (λ (block : CcfBlock). AreRising n (of block.part)) c.blocks →
      AreRising n (of c.last) → All (AreRising n) of_parts
  parts-rise first blocks last = All-cons (AreRising n) (of c.first) (map (λ (block : CcfBlock). of block.part) c.blocks ++ of c.last ∷ []) first
      (All-append (AreRising n) (map (λ (block : CcfBlock). of block.part) c.blocks) (of c.last ∷ [])
      (All-map (AreRising n) (λ (block : CcfBlock). of block.part) c.blocks blocks)
      (All-cons (AreRising n) (of c.last) [] last (All-nil (AreRising n))))

pub columns-long : (c : Contents) → length (column_lists c) ≡ length c.blocks + 2
columns-long c = parts-long (λ part. part.columns) 0 c

pub q_rows-long : (c : Contents) → length (q_row_lists c) ≡ length c.blocks + 2
q_rows-long c = parts-long (λ part. part.q_rows) 0 c

pub t_rows-long : (c : Contents) → length (t_row_lists c) ≡ length c.blocks + 2
t_rows-long c = parts-long (λ part. part.t_rows) 0 c

pub columns-rise : (p : ℕ) (c : Contents) → IsCcf p c → All (AreRising c.shape.columns) (column_lists c)
columns-rise p c is = parts-rise (λ part. part.columns) c.shape.columns c (is.first).columns (λ k d kl. ((is.blocks k d kl).part).columns) (is.last).columns

pub q_rows-rise : (p : ℕ) (c : Contents) → IsCcf p c → All (AreRising c.shape.q_rows) (q_row_lists c)
q_rows-rise p c is = parts-rise (λ part. part.q_rows) c.shape.q_rows c (is.first).q_rows (λ k d kl. ((is.blocks k d kl).part).q_rows) (is.last).q_rows

pub t_rows-rise : (p : ℕ) (c : Contents) → IsCcf p c → All (AreRising c.shape.t_rows) (t_row_lists c)
t_rows-rise p c is = parts-rise (λ part. part.t_rows) c.shape.t_rows c (is.first).t_rows (λ k d kl. ((is.blocks k d kl).part).t_rows) (is.last).t_rows
