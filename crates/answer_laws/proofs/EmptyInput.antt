-- The certificate of the empty input.
use Rattle.std.proofs.Common.{◌≡◌, ℕ, ◌<◌, List, [], ◌∷◌, ◌++◌, length, get_or, codes, Option, None, Some, refl, ap, ◌∙◌, arith}
use Rattle.std.specs.Fmt.{digits}
use Rattle.std.proofs.lemmas.List.Elements.{All-head}
use Rattle.cert_text.specs.Contents.{Contents, Certificate}
use Rattle.cert_text.specs.Ranges.{IsCcf, IsPart, IsBlock, AreRising, ArePairs}
use Rattle.cert_text.specs.Texts.{shape_text, pair_text, matrices_text, parts_text, echo_text, certificate_text}
use Rattle.cert_text.specs.declared.kind.Kind.{Kind}
use Rattle.cert_text.specs.declared.kind.Kind.TheVariants.{Flowsheet, Matrix, Netlist}
use Rattle.cert_text.specs.declared.part.CcfBlock.{CcfBlock}
use Rattle.cert_text.specs.declared.part.CcfPart.{CcfPart}
use Rattle.cert_text.specs.declared.shape.Shape.{Shape}
use Rattle.report_cli.specs.Answer.{IsAnswer}
use Rattle.cert_text.specs.declared.version.Version.{Version}
use Rattle.residue_field.specs.Modulus.{modulus_of}
use Rattle.report_cli.specs.Fields.{certificate_version}
use Rattle.report_cli.specs.RightFor.{IsRightForInput}
use Rattle.command_line.specs.Words.{AsksFor, over}
use Rattle.residue_field.specs.declared.field_name.FieldName.{FieldName}
use Rattle.residue_field.specs.declared.field_name.FieldName.TheVariants.{Large, Small}
use Rattle.command_line.specs.declared.command.Command.TheVariants.{OfModel}
use Rattle.command_line.specs.declared.command.Task.TheVariants.{Analyse}
use Rattle.run_ends.specs.declared.status.Status.TheVariants.{Done}
use Rattle.input_kinds.proofs.NamesByKind.{no-names}
use Rattle.answer_laws.proofs.Narrow.{members-few}
use Rattle.answer_laws.specs.NoAnswers.{empty_text}
use Rattle.answer_laws.proofs.Answers.{analysed}

-- lists in an empty range
pub empty-list : {A : Type 0} (xs : List A) → length xs ≡ 0 → xs ≡ []
empty-list [] none = refl
empty-list (x ∷ xs) none = absurd (omega (arith, none))

empty-rising : (n : ℕ) (xs : List ℕ) → n ≡ 0 → AreRising n xs → xs ≡ []
empty-rising n [] none are = refl
empty-rising n (x ∷ xs) none are = let below : x < n = All-head (λ x. x < n) x xs are.below in absurd (omega (arith, below, none))

pub empty-pairs : (m n : ℕ) (pairs : List (ℕ × ℕ)) → m ≡ 0 → ArePairs m n pairs → pairs ≡ []
empty-pairs m n [] none are = refl
empty-pairs m n (pair ∷ pairs) none are =
    let within = All-head (λ (pair : ℕ × ℕ). (pair.0 < m) × (pair.1 < n)) pair pairs are.within in absurd (omega (arith, within.0, none))

abbrev pub part : List ℕ → List ℕ → List ℕ → CcfPart
part columns q_rows t_rows = record { columns = columns; q_rows = q_rows; t_rows = t_rows }

pub empty-part : (shape : Shape) (p : CcfPart) → shape.q_rows ≡ 0 → shape.t_rows ≡ 0 → shape.columns ≡ 0 → IsPart shape p →
    p ≡ record { columns = []; q_rows = []; t_rows = [] }
empty-part shape p q t n is =
    ap (λ x. part x p.q_rows p.t_rows) (empty-rising shape.columns p.columns n is.columns)
    ∙ ap (λ x. part [] x p.t_rows) (empty-rising shape.q_rows p.q_rows q is.q_rows)
    ∙ ap (λ x. part [] [] x) (empty-rising shape.t_rows p.t_rows t is.t_rows)

pub empty-blocks : (shape : Shape) (blocks : List CcfBlock) → shape.columns ≡ 0 →
    ((k : ℕ) (d : CcfBlock) → k < length blocks → IsBlock shape k (get_or blocks k d)) → blocks ≡ []
empty-blocks shape [] none are = refl
empty-blocks shape (block ∷ blocks) none are =
    let here : IsBlock shape 0 block = are 0 block (omega arith) in
    let nothing : length block.part.columns ≡ 0 = ap length (empty-rising shape.columns block.part.columns none (here.part).columns) in
    absurd (omega (arith, here.some, nothing))

abbrev made : ℕ → ℕ → ℕ → ℕ → ℕ → Shape
made e u q t n = record { equations = e; unknowns = u; q_rows = q; t_rows = t; columns = n }

pub one-shape : (shape : Shape) (e u q t n : ℕ) → shape.equations ≡ e → shape.unknowns ≡ u → shape.q_rows ≡ q → shape.t_rows ≡ t → shape.columns ≡ n →
    shape ≡ record { equations = e; unknowns = u; q_rows = q; t_rows = t; columns = n }
one-shape shape e u q t n is_e is_u is_q is_t is_n =
    ap (λ x. made x shape.unknowns shape.q_rows shape.t_rows shape.columns) is_e ∙ ap (λ x. made e x shape.q_rows shape.t_rows shape.columns) is_u
    ∙ ap (λ x. made e u x shape.t_rows shape.columns) is_q ∙ ap (λ x. made e u q x shape.columns) is_t ∙ ap (λ x. made e u q t x) is_n

-- a certificate's text, by its parts
abbrev pub text_with : Version → ℕ → Kind → List ℕ → Shape → ℕ → List (ℕ × ℕ) → List (ℕ × ℕ) → List ℕ → List ℕ → List ℕ
text_with version p kind echo shape rank base mates matrices parts =
    echo_text version p kind echo ++ (shape_text shape ++ pair_text rank base mates ++ matrices ++ parts ++ codes "end\n")

pub text-with : (c : Certificate) (version : Version) (p : ℕ) (kind : Kind) (echo : List ℕ) (shape : Shape) (rank : ℕ) (base mates : List (ℕ × ℕ)) →
    c.version ≡ version → c.modulus ≡ p → c.kind ≡ kind → c.echo ≡ echo → c.ccf.shape ≡ shape → c.ccf.rank ≡ rank → c.ccf.base ≡ base →
    c.ccf.mates ≡ mates →
    certificate_text c ≡ text_with version p kind echo shape rank base mates (matrices_text c.ccf.s c.ccf.u c.ccf.p c.ccf.t)
    (parts_text c.ccf.first c.ccf.blocks c.ccf.last)
text-with c version p kind echo shape rank base mates is_version is_p is_kind is_echo is_shape is_rank is_base is_mates =
    let X : List ℕ = matrices_text c.ccf.s c.ccf.u c.ccf.p c.ccf.t in
    let Y : List ℕ = parts_text c.ccf.first c.ccf.blocks c.ccf.last in
    ap (λ x. text_with x c.modulus c.kind c.echo c.ccf.shape c.ccf.rank c.ccf.base c.ccf.mates X Y) is_version
    ∙ ap (λ x. text_with version x c.kind c.echo c.ccf.shape c.ccf.rank c.ccf.base c.ccf.mates X Y) is_p
    ∙ ap (λ x. text_with version p x c.echo c.ccf.shape c.ccf.rank c.ccf.base c.ccf.mates X Y) is_kind
    ∙ ap (λ x. text_with version p kind x c.ccf.shape c.ccf.rank c.ccf.base c.ccf.mates X Y) is_echo
    ∙ ap (λ x. text_with version p kind echo x c.ccf.rank c.ccf.base c.ccf.mates X Y) is_shape
    ∙ ap (λ x. text_with version p kind echo shape x c.ccf.base c.ccf.mates X Y) is_rank
    ∙ ap (λ x. text_with version p kind echo shape rank x c.ccf.mates X Y) is_base
    ∙ ap (λ x. text_with version p kind echo shape rank base x X Y) is_mates

empty-matrices : (p : ℕ) (c : Contents) → IsCcf p c → c.shape.q_rows ≡ 0 → c.shape.t_rows ≡ 0 → matrices_text c.s c.u c.p c.t ≡ []
empty-matrices p c is q t =
    ap (λ x. matrices_text x c.u c.p c.t) (empty-list c.s ((is.s).count ∙ q))
    ∙ ap (λ x. matrices_text [] x c.p c.t) (empty-list c.u ((is.u).count ∙ q))
    ∙ ap (λ x. matrices_text [] [] x c.t) (empty-list c.p ((is.p).count ∙ q))
    ∙ ap (λ x. matrices_text [] [] [] x) (empty-list c.t ((is.t).count ∙ t))

abbrev pub nothing : CcfPart
nothing = part [] [] []

empty-parts : (p : ℕ) (c : Contents) → IsCcf p c → c.shape.q_rows ≡ 0 → c.shape.t_rows ≡ 0 → c.shape.columns ≡ 0 →
    parts_text c.first c.blocks c.last ≡ codes "first |\nlast |\n"
empty-parts p c is q t n =
    ap (λ x. parts_text x c.blocks c.last) (empty-part c.shape c.first q t n is.first)
    ∙ ap (λ x. parts_text nothing x c.last) (empty-blocks c.shape c.blocks n is.blocks)
    ∙ ap (λ x. parts_text nothing [] x) (empty-part c.shape c.last q t n is.last)

-- nothing has a shape
abbrev nowhere : Shape
nowhere = record { equations = 0; unknowns = 0; q_rows = 0; t_rows = 0; columns = 0 }

-- the text of a certificate of nothing, by its field and its kind
nothing-text : (field : Option FieldName) (kind : Kind) →
    text_with (certificate_version field) (modulus_of (over field)) kind [] nowhere 0 [] [] [] (codes "first |\nlast |\n") ≡ empty_text field kind
unfolding digits
nothing-text None Matrix = refl
nothing-text None Netlist = refl
nothing-text None Flowsheet = refl
nothing-text (Some Small) Matrix = refl
nothing-text (Some Small) Netlist = refl
nothing-text (Some Small) Flowsheet = refl
nothing-text (Some Large) Matrix = refl
nothing-text (Some Large) Netlist = refl
nothing-text (Some Large) Flowsheet = refl

pub empty-certificate : (field : Option FieldName) (kind : Kind) (c : Certificate) →
    IsRightForInput (modulus_of (over field)) (certificate_version field) kind [] c → certificate_text c ≡ empty_text field kind
empty-certificate field kind c right =
    let p : ℕ = modulus_of (over field) in
    let version = certificate_version field in
    let few = no-names p kind right.model right.gives in
    let shape = (right.right).shape in
    let lay = right.layers in
    let pair = (right.right).pair_and_rank in
    let is = right.form in
    let rows : length right.model.equations ≡ 0 = omega (arith, few.0) in
    let columns : length right.model.unknowns ≡ 0 = omega (arith, few.1) in
    let q : right.layered.q_rows ≡ 0 = omega (arith, members-few _ _ _ _ lay.q_rows, rows) in
    let t : right.layered.t_rows ≡ 0 = omega (arith, members-few _ _ _ _ lay.t_rows, rows) in
    let s : right.origins.split ≡ 0 = omega (arith, members-few _ _ _ _ lay.auxiliary, rows) in
    let n : right.layered.columns ≡ 0 = omega (arith, lay.columns, columns, s) in
    let base : c.ccf.base ≡ [] = empty-pairs c.ccf.shape.q_rows c.ccf.shape.columns c.ccf.base (shape.q_rows ∙ q) is.base in
    let mates : c.ccf.mates ≡ [] = empty-pairs c.ccf.shape.t_rows c.ccf.shape.columns c.ccf.mates (shape.t_rows ∙ t) is.mates in
    let rank : c.ccf.rank ≡ 0 = omega (arith, pair.size, s, ap length base, ap length mates) in
    let zero_shape : c.ccf.shape ≡ nowhere =
    one-shape c.ccf.shape 0 0 0 0 0 (shape.equations ∙ rows) (shape.unknowns ∙ columns) (shape.q_rows ∙ q) (shape.t_rows ∙ t) (shape.columns ∙ n) in
    text-with c version p kind [] nowhere 0 [] [] right.version_is right.modulus_is right.kind_is right.echo zero_shape rank base mates
    ∙ ap (λ x. text_with version p kind [] nowhere 0 [] [] x (parts_text c.ccf.first c.ccf.blocks c.ccf.last))
    (empty-matrices p c.ccf is (shape.q_rows ∙ q) (shape.t_rows ∙ t))
    ∙ ap (λ x. text_with version p kind [] nowhere 0 [] [] [] x)
    (empty-parts p c.ccf is (shape.q_rows ∙ q) (shape.t_rows ∙ t) (shape.columns ∙ n))
    ∙ nothing-text field kind

pub empty-answer : (words : List (List ℕ)) (kind : Kind) (field : Option FieldName) (text : List ℕ) →
    AsksFor words (OfModel Analyse kind field) → IsAnswer words [] Done text → text ≡ empty_text field kind
empty-answer words kind field text asks answer =
    let one = analysed words kind field [] text asks answer in one.text_is ∙ empty-certificate field kind one.certificate one.right
