-- A made model has one text, which fits in its room.
use Rattle.std.proofs.Common.{◌≡◌, ◌⊎◌, ℕ, ◌+◌, ◌≤◌, List, [], ◌∷◌, ◌++◌, length, map, get_or, suc, codes, inl, inr, refl, ap, sym, subst, ◌<◌, Option, ◌∙◌}
use Rattle.residue_theory.specs.Residues.{IsPrime}
use Rattle.text_writer.specs.Numbers.{spaced}
use Rattle.mixed_matrices.specs.Layerings.{IsLayeredMatrixOf}
use Rattle.mixed_model.specs.Models.{mixed_matrix_of}
use Rattle.cert_text.specs.Contents.{Contents}
use Rattle.cert_text.specs.Right.{IsRightCcf}
use Rattle.cert_text.specs.declared.part.CcfBlock.{CcfBlock}
use Rattle.cert_text.specs.declared.part.CcfPart.{CcfPart}
use Rattle.certificate_laws.specs.Agreement.{AgreeInParts}
use Rattle.certificate_laws.proofs.AgreedForms.{agreed}
use Rattle.made_models.proofs.MadeLaws.{made-one}
use Rattle.answer_texts.specs.MadeTexts.{made_text, system_line, tail_sizes}
use Rattle.answer_texts.specs.ReportTexts.{count_line}
use Rattle.answer_texts.specs.Rooms.{made_room}
use Rattle.command_line.specs.Words.{AsksToMake, over}
use Rattle.residue_field.specs.declared.field_name.FieldName.{FieldName}
use Rattle.residue_field.specs.Modulus.{modulus_of}
use Rattle.report_cli.proofs.FieldFacts.{odd-of, prime-of}
use Rattle.command_line.proofs.Asking.{makes-one, not-both}
use Rattle.run_ends.specs.Ways.{HasText}
use Rattle.report_cli.specs.Answer.{IsAnswer, IsCommandAnswer, IsMakeAnswer}
use Rattle.report_cli.specs.MadeFor.{IsMakeText}
use Rattle.run_ends.specs.declared.status.Status.{Status}
use Rattle.run_ends.specs.declared.status.Status.TheVariants.{Done, NotRegular}
use Rattle.answer_laws.proofs.TextRooms.{made-fits}

-- the last one of some lists, and its length
last-at : (f : CcfBlock → List ℕ) (last : List ℕ) (blocks : List CcfBlock) → get_or (map f blocks ++ last ∷ []) (length blocks) [] ≡ last
last-at f last [] = refl
last-at f last (block ∷ blocks) = last-at f last blocks

last-long : (f : CcfBlock → List ℕ) (last : List ℕ) (blocks : List CcfBlock) →
    get_or (map (λ rows. length rows) (map f blocks ++ last ∷ [])) (length blocks) 0 ≡ length last
last-long f last [] = refl
last-long f last (block ∷ blocks) = last-long f last blocks

-- the line of a tail tells its three lengths alone
tail-same : (word : List ℕ) (a b : CcfPart) → length a.q_rows ≡ length b.q_rows → length a.t_rows ≡ length b.t_rows →
    length a.columns ≡ length b.columns → tail_sizes word a ≡ tail_sizes word b
tail-same word a b q t columns =
    ap (λ n. word ++ spaced (n + length a.t_rows) ++ spaced (length a.columns) ++ codes "\n") q
    ∙ ap (λ n. word ++ spaced (length b.q_rows + n) ++ spaced (length a.columns) ++ codes "\n") t
    ∙ ap (λ n. word ++ spaced (length b.q_rows + length b.t_rows) ++ spaced n ++ codes "\n") columns

-- forms that agree have one text
module _ (n split : ℕ) (c d : Contents) (agree : AgreeInParts c d) where
  first-same : tail_sizes (codes "first") c.first ≡ tail_sizes (codes "first") d.first
  first-same = tail-same (codes "first") c.first d.first (ap (λ l. get_or l 0 0) agree.q_rows)
      (ap (λ l. length (get_or l 0 [])) agree.t_rows) (ap (λ l. length (get_or l 0 [])) agree.columns)

  last-lists : (x y : List ℕ) (f : CcfBlock → List ℕ) (a b : List ℕ) → x ∷ (map f c.blocks ++ a ∷ []) ≡ y ∷ (map f d.blocks ++ b ∷ []) →
      length a ≡ length b
  last-lists x y f a b same =
      ap (λ l. length l) (sym (last-at f a c.blocks)
      ∙ ap (λ l. get_or l (suc (length c.blocks)) []) same
      ∙ ap (λ k. get_or (map f d.blocks ++ b ∷ []) k []) agree.blocks
      ∙ last-at f b d.blocks)

  last-rows : length (c.last).q_rows ≡ length (d.last).q_rows
  last-rows =
      sym (last-long (λ block. block.part.q_rows) (c.last).q_rows c.blocks)
      ∙ ap (λ l. get_or l (suc (length c.blocks)) 0) agree.q_rows
      ∙ ap (λ k. get_or (map (λ rows. length rows) (map (λ block. block.part.q_rows) d.blocks ++ (d.last).q_rows ∷ [])) k 0) agree.blocks
      ∙ last-long (λ block. block.part.q_rows) (d.last).q_rows d.blocks

  last-same : tail_sizes (codes "last") c.last ≡ tail_sizes (codes "last") d.last
  last-same = tail-same (codes "last") c.last d.last last-rows
      (last-lists (c.first).t_rows (d.first).t_rows (λ block. block.part.t_rows) (c.last).t_rows (d.last).t_rows agree.t_rows)
      (last-lists (c.first).columns (d.first).columns (λ block. block.part.columns) (c.last).columns (d.last).columns agree.columns)

  text-same : made_text n split c ≡ made_text n split d
  text-same =
      let text : ℕ → List ℕ → ℕ → List ℕ → List ℕ = λ rank first blocks last. count_line (codes "make") n ++ system_line n split
      ++ count_line (codes "rank") rank ++ first ++ count_line (codes "blocks") blocks ++ last in
      ap (λ r. text r (tail_sizes (codes "first") c.first) (length c.blocks) (tail_sizes (codes "last") c.last)) agree.rank
      ∙ ap (λ f. text d.rank f (length c.blocks) (tail_sizes (codes "last") c.last)) first-same
      ∙ ap (λ b. text d.rank (tail_sizes (codes "first") d.first) b (tail_sizes (codes "last") c.last)) agree.blocks
      ∙ ap (λ l. text d.rank (tail_sizes (codes "first") d.first) (length d.blocks) l) last-same

-- what is told of a made model is one text
made-text-one : (p : ℕ) → IsPrime p → 2 < p → (n : ℕ) (one two : List ℕ) → IsMakeText p n one → IsMakeText p n two → one ≡ two
made-text-one p prime odd n one two first second =
    let a = first.right in
    let b = second.right in
    let same : b.model ≡ a.model = made-one p n b.model a.model b.is a.is b.made a.made in
    let layers : IsLayeredMatrixOf (mixed_matrix_of a.model) b.layered b.origins =
    subst (λ m. IsLayeredMatrixOf (mixed_matrix_of m) b.layered b.origins) same b.layers in
    let right : IsRightCcf p (mixed_matrix_of a.model) b.layered b.origins second.ccf =
    subst (λ m. IsRightCcf p (mixed_matrix_of m) b.layered b.origins second.ccf) same b.right in
    let splits : first.split ≡ second.split =
    a.split_is ∙ sym ((a.layers).auxiliary).count ∙ (layers.auxiliary).count ∙ sym b.split_is in
    let agree : AgreeInParts first.ccf second.ccf =
    agreed p prime odd (mixed_matrix_of a.model) a.layered b.layered a.origins b.origins a.layers layers
    first.ccf second.ccf a.form b.form a.right right in
    first.text_is ∙ ap (λ s. made_text n s first.ccf) splits ∙ text-same n second.split first.ccf second.ccf agree ∙ sym second.text_is

-- an answer to words that ask for a made model tells of it
told-of : (words : List (List ℕ)) (n : ℕ) (field : Option FieldName) (input text : List ℕ) → AsksToMake words n field →
    IsCommandAnswer words input Done text ⊎ IsMakeAnswer words text → IsMakeText (modulus_of (over field)) n text
told-of words n field input text makes (inl (command, asks, given)) = not-both words command n field asks makes
told-of words n field input text makes (inr (m, named, made, told)) =
    let same = makes-one words m n named field made makes in
    subst (λ f. IsMakeText (modulus_of (over f)) n text) same.1 (subst (λ k. IsMakeText (modulus_of (over named)) k text) same.0 told)

pub one-make-text : (words : List (List ℕ)) (n : ℕ) (field : Option FieldName) (input another text other : List ℕ) → AsksToMake words n field →
    IsAnswer words input Done text → IsAnswer words another Done other → text ≡ other
one-make-text words n field input another text other makes first second =
    made-text-one (modulus_of (over field)) (prime-of (over field)) (odd-of (over field)) n text other
    (told-of words n field input text makes first) (told-of words n field another other makes second)

fits : (p n : ℕ) (text : List ℕ) → IsMakeText p n text → length text ≤ made_room
fits p n text told = subst (λ t. length t ≤ made_room) (sym told.text_is) (made-fits p n told.split told.ccf told.right)

pub fitting_make : (words : List (List ℕ)) (n : ℕ) (field : Option FieldName) (input : List ℕ) (status : Status) (text : List ℕ) →
    AsksToMake words n field → HasText status → IsAnswer words input status text → length text ≤ made_room
fitting_make words n field input status text makes (inl done) answer =
    fits (modulus_of (over field)) n text (told-of words n field input text makes (subst (λ s. IsAnswer words input s text) done answer))
fitting_make words n field input status text makes (inr other) answer =
    let given : IsCommandAnswer words input NotRegular text = subst (λ s. IsAnswer words input s text) other answer in
    not-both words given.0 n field given.1 makes
