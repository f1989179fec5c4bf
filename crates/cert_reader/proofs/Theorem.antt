-- What is read, and what is refused.
use Rattle.std.proofs.Common.{◌≡◌, ℕ, ◌+◌, ◌^◌, ◌<◌, List, [], ◌∷◌, ◌++◌, length, Result, Ok, Err, ◌⊎◌, inl, inr}
use Rattle.std.proofs.Common.{refl, sym, ap, subst, ◌∙◌, append_assoc, arith}
use Rattle.std.specs.Prelude.{codes}
use Rattle.std.specs.List.{concat}
use Rattle.std.proofs.lemmas.List.{append-nil}
use Rattle.std.proofs.lemmas.List.Folds.{concat-append}
use Rattle.cert_text.specs.Contents.{Certificate, Contents}
use Rattle.cert_text.specs.Texts.{spaced, kind_text, shape_text, pairs_text, entries_line, columns_line, tail_line}
use Rattle.cert_text.specs.Texts.{block_line, matrix_text, pattern_text, blocks_text, contents_text, certificate_text}
use Rattle.cert_text.specs.Texts.{echo_text, version_text}
use Rattle.cert_text.specs.declared.part.CcfBlock.{CcfBlock}
use Rattle.cert_text.specs.declared.version.Version.{Version}
use Rattle.cert_text.specs.declared.version.Version.TheVariants.{One, Two}
use Rattle.cert_reader.specs.declared.fault.ReadCert.{ReadCert}
use Rattle.cert_reader.specs.declared.fault.ReadCert.TheVariants as errors
use Rattle.cert_reader.specs.Fronts.{Fails}
use Rattle.cert_reader.specs.CertLines.{row_lines, contents_lines, version_lines, body_lines, certificate_lines}
use Rattle.cert_reader.specs.CertLines.{IsCertificate, IsCause, IsOfCertificate, IsNoCertificate}
use Rattle.cert_text.specs.Ranges.{IsCcf}
use Rattle.cert_reader.specs.CertReading.{contents_at, certificate_at}
use Rattle.cert_reader.proofs.Lines.{ok_is}
use Rattle.cert_reader.proofs.Whole.{Short, whole-contents, whole-certificate}

abbrev as_one : Certificate → Result Certificate ℕ
as_one c = Ok c

abbrev as_read : Result (Certificate × List ℕ) ℕ → Result (Certificate × List ℕ) ℕ
as_read r = r

matrix-lines : (word : List ℕ) (number : ℕ) (rows : List (List (ℕ × ℕ))) → concat (row_lines (entries_line word) number rows) ≡ matrix_text word number rows
matrix-lines word number [] = refl
matrix-lines word number (row ∷ rows) = ap (λ ws. entries_line word number row ++ ws) (matrix-lines word (number + 1) rows)

pattern-lines : (word : List ℕ) (number : ℕ) (rows : List (List ℕ)) → concat (row_lines (columns_line word) number rows) ≡ pattern_text word number rows
pattern-lines word number [] = refl
pattern-lines word number (row ∷ rows) = ap (λ ws. columns_line word number row ++ ws) (pattern-lines word (number + 1) rows)

blocks-lines : (number : ℕ) (blocks : List CcfBlock) → concat (row_lines block_line number blocks) ≡ blocks_text number blocks
blocks-lines number [] = refl
blocks-lines number (block ∷ blocks) = ap (λ ws. block_line number block ++ ws) (blocks-lines (number + 1) blocks)

joined : (s u p t b : List (List ℕ)) (f l e : List ℕ) →
    concat (s ++ (u ++ (p ++ (t ++ (f ∷ (b ++ (l ∷ e ∷ []))))))) ≡ concat s ++
    (concat u ++ (concat p ++ (concat t ++ (f ++ (concat b ++ (l ++ (e ++ [])))))))
joined s u p t b f l e =
    concat-append s (u ++ (p ++ (t ++ (f ∷ (b ++ (l ∷ e ∷ []))))))
    ∙ ap (λ ws. concat s ++ ws) (concat-append u (p ++ (t ++ (f ∷ (b ++ (l ∷ e ∷ [])))))
    ∙ ap (λ ws. concat u ++ ws) (concat-append p (t ++ (f ∷ (b ++ (l ∷ e ∷ []))))
    ∙ ap (λ ws. concat p ++ ws) (concat-append t (f ∷ (b ++ (l ∷ e ∷ [])))
    ∙ ap (λ ws. concat t ++ (f ++ ws)) (concat-append b (l ∷ e ∷ [])))))

regrouped : (shape r rank nl b base m mates s u p t f k l e : List ℕ) →
    shape ++ ((r ++ (rank ++ nl)) ++ ((b ++ (base ++ nl)) ++ ((m ++ (mates ++ nl)) ++ (s ++ (u ++ (p ++ (t ++ (f ++ (k ++ (l ++ (e ++ [])))))))))))
    ≡ shape ++ (r ++ rank ++ (nl ++ b) ++ base ++ (nl ++ m) ++ mates ++ nl) ++ (s ++ u ++ p ++ t) ++ (f ++ k ++ l) ++ e
regrouped shape r rank nl b base m mates s u p t f k l e = simp (append_assoc, append-nil)

pub contents-lines : (c : Contents) → concat (contents_lines c) ≡ contents_text c
contents-lines c =
    ap (λ ws. shape_text c.shape ++ ((codes "rank" ++ (spaced c.rank ++ codes "\n")) ++
    ((codes "base" ++ (pairs_text c.base ++ codes "\n")) ++
    ((codes "match" ++ (pairs_text c.mates ++ codes "\n")) ++ ws))))
    (joined (row_lines (entries_line (codes "S")) 1 c.s) (row_lines (entries_line (codes "U")) 1 c.u)
    (row_lines (entries_line (codes "P")) 1 c.p) (row_lines (columns_line (codes "T")) 1 c.t)
    (row_lines block_line 1 c.blocks) (tail_line (codes "first") c.first) (tail_line (codes "last") c.last)
    (codes "end\n"))
    ∙ (λ i. shape_text c.shape ++ ((codes "rank" ++ (spaced c.rank ++ codes "\n")) ++
    ((codes "base" ++ (pairs_text c.base ++ codes "\n")) ++
    ((codes "match" ++ (pairs_text c.mates ++ codes "\n")) ++
    (matrix-lines (codes "S") 1 c.s i ++ (matrix-lines (codes "U") 1 c.u i ++ (matrix-lines (codes "P") 1 c.p i ++
    (pattern-lines (codes "T") 1 c.t i ++ (tail_line (codes "first") c.first ++
    (blocks-lines 1 c.blocks i ++ (tail_line (codes "last") c.last ++ (codes "end\n" ++ []))))))))))))
    ∙ regrouped (shape_text c.shape) (codes "rank") (spaced c.rank) (codes "\n") (codes "base") (pairs_text c.base)
    (codes "match") (pairs_text c.mates) (matrix_text (codes "S") 1 c.s) (matrix_text (codes "U") 1 c.u)
    (matrix_text (codes "P") 1 c.p) (pattern_text (codes "T") 1 c.t)
    (tail_line (codes "first") c.first) (blocks_text 1 c.blocks) (tail_line (codes "last") c.last) (codes "end\n")

headed : (v k kind nl l size echo rest : List ℕ) → v ++
    ((k ++ (kind ++ nl)) ++ ((l ++ (size ++ nl)) ++ ((echo ++ nl) ++ rest))) ≡
    (v ++ k ++ kind ++ (nl ++ l) ++ size ++ nl ++ echo ++ nl) ++ rest
headed v k kind nl l size echo rest = simp append_assoc

told : (v f modulus nl : List ℕ) → v ++ ((f ++ (modulus ++ nl)) ++ []) ≡ (v ++ f) ++ modulus ++ nl
told v f modulus nl = simp (append_assoc, append-nil)

version-lines : (version : Version) (modulus : ℕ) → concat (version_lines version modulus) ≡ version_text version modulus
version-lines One modulus = refl
version-lines Two modulus = told (codes "mixed-certificate 2\n") (codes "field") (spaced modulus) (codes "\n")

pub certificate-lines : (c : Certificate) → concat (certificate_lines c) ≡ certificate_text c
certificate-lines c =
    concat-append (version_lines c.version c.modulus) (body_lines c)
    ∙ ap (λ ws. ws ++ concat (body_lines c)) (version-lines c.version c.modulus)
    ∙ headed (version_text c.version c.modulus) (codes "kind ") (kind_text c.kind) (codes "\n") (codes "length")
    (spaced (length c.echo)) c.echo (concat (contents_lines c.ccf))
    ∙ ap (λ ws. echo_text c.version c.modulus c.kind c.echo ++ ws) (contents-lines c.ccf)

-- ---- the clauses of `read`

the-text : (c : Certificate) → concat (certificate_lines c) ++ [] ≡ certificate_text c
the-text c = append-nil (concat (certificate_lines c)) ∙ certificate-lines c

pub found_is : (bytes : List ℕ) (x : Certificate × List ℕ) → Short bytes →
    certificate_at 1 bytes ≡ Ok x → IsCertificate x.0 × (bytes ≡ certificate_text x.0)
found_is bytes x short e =
    let h = whole-certificate.reads.takes 1 bytes x short e in
    (h.1, h.0 ∙ ap (λ ws. concat (certificate_lines x.0) ++ ws) h.2 ∙ the-text x.0)

read-again : (bytes : List ℕ) (c : Certificate) → Short bytes →
    IsCertificate c → bytes ≡ certificate_text c → certificate_at 1 bytes ≡ Ok (c, [])
read-again bytes c short is text =
    let whole : bytes ≡ concat (certificate_lines c) ++ [] = text ∙ sym (the-text c) in
    ap (certificate_at 1) whole ∙ whole-certificate.reads.again 1 c [] (subst Short whole short) is refl

pub only_ok : (bytes : List ℕ) (x : Certificate × List ℕ) (c : Certificate) →
    Short bytes → certificate_at 1 bytes ≡ Ok x → IsCertificate c → bytes ≡ certificate_text c →
    c ≡ x.0
only_ok bytes x c short e is text = ap (λ y. y.0) (ok_is (c, []) x (sym (read-again bytes c short is text) ∙ e))

-- reading gives one or the other
differ : {Y : Type 0} (x : Certificate × List ℕ) (l : ℕ) → as_read (Ok x) ≡ Err l → Y
differ x l h = (let f : ⊥ = cc in absurd f)

pub only_err : (bytes : List ℕ) (e : ReadCert) (c : Certificate) → Short bytes →
    Fails e (certificate_at 1 bytes) → IsCertificate c → bytes ≡ certificate_text c →
    Fails e (as_one c)
only_err bytes errors.NoMemory c short failed is text = tt
only_err bytes (errors.Refused l) c short failed is text = differ (c, []) l (sym (read-again bytes c short is text) ∙ failed)

pub cause_is : (bytes : List ℕ) (e : ReadCert) → Short bytes →
    Fails e (certificate_at 1 bytes) → IsCause e bytes
cause_is bytes errors.NoMemory short failed = tt
cause_is bytes (errors.Refused l) short failed =
    (let h = whole-certificate.reads.fails 1 bytes l short failed in (h.0, omega (arith, h.1), h.2))

pub contents_are : (modulus : ℕ) → modulus < 2 ^ 32 → (line : ℕ) (bytes : List ℕ) (x : Contents × List ℕ) →
    Short bytes → contents_at modulus line bytes ≡ Ok x → IsCcf modulus x.0
contents_are modulus small line bytes x short e = ((whole-contents modulus small).reads.takes line bytes x short e).1

-- ---- one text, one certificate

pub one_certificate : (a b : Certificate) → IsCertificate a →
    IsCertificate b → Short (certificate_text b) → certificate_text a ≡ certificate_text b → a ≡ b
one_certificate a b one two short same =
    ap (λ y. y.0) (ok_is (a, []) (b, []) (sym (read-again (certificate_text b) a short one (sym same))
    ∙ read-again (certificate_text b) b short two refl))

pub no_more : (a b : Certificate) (more : List ℕ) → IsCertificate a →
    IsCertificate b → Short (certificate_text b) → certificate_text a ++ more ≡ certificate_text b → more ≡ []
no_more a b [] one two short same = refl
no_more a b (byte ∷ more) one two short same =
    let whole : certificate_text b ≡ concat (certificate_lines a) ++ (byte ∷ more) = sym same ∙ ap (λ ws. ws ++ (byte ∷ more)) (sym (certificate-lines a)) in
    let stopped = whole-certificate.reads.stops 1 a (byte ∷ more) (subst Short whole short) one (λ e. (let f : ⊥ = cc in f)) in
    differ (b, []) stopped.0 (sym (read-again (certificate_text b) b short two refl) ∙ ap (certificate_at 1) whole ∙ stopped.1)

-- ---- each text is read or refused

pub read_or_refused : (text : List ℕ) → Short text → IsOfCertificate text ⊎ ((line : ℕ) × IsNoCertificate text line)
read_or_refused text short = go (certificate_at 1 text) refl
  where
    go : (read : Result (Certificate × List ℕ) ℕ) → certificate_at 1 text ≡ read →
        IsOfCertificate text ⊎ ((line : ℕ) × IsNoCertificate text line)
    go (Ok x) taken =
        let found = found_is text x short taken in
        inl (record { certificate = x.0; is = found.0; text_is = found.1 })
    go (Err line) failed =
        let refused = errors.Refused line in
        inr (
          line,
          record {
            none = λ c is text_is. (let differs : as_one c ≡ Err line = only_err text refused c short failed is text_is in absurd cc);
            refused = cause_is text refused short failed;
          },
        )
