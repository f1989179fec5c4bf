-- Blocks, and what closes a certificate.
use Rattle.std.proofs.Common.{◌≡◌, ℕ, zero, suc, ◌+◌, ◌^◌, ◌<◌, ◌≤◌, Bool, true, false, cond, eqb, List, [], ◌∷◌}
use Rattle.std.proofs.Common.{◌++◌, length, drop, get_or, Result, Ok, Err, refl, sym, ap, subst, ◌∙◌, append_assoc}
use Rattle.std.proofs.Common.{length-append, arith, ◌⊎◌, inl, inr}
use Rattle.std.specs.Prelude.{codes}
use Rattle.std.specs.List.{concat}
use Rattle.std.proofs.lemmas.List.{append-nil, nil_from_length}
use Rattle.std.proofs.lemmas.Bool.{eqb-true}
use Rattle.cert_text.specs.Texts.{tail_line, block_line}
use Rattle.cert_text.specs.Ranges.{IsShape, AreRising, IsPart, IsBlock}
use Rattle.cert_text.specs.declared.shape.Shape.{Shape}
use Rattle.cert_text.specs.declared.part.CcfPart.{CcfPart}
use Rattle.cert_text.specs.declared.part.CcfBlock.{CcfBlock}
use Rattle.cert_reader.specs.declared.fault.ReadCert.{ReadCert}
use Rattle.cert_reader.specs.declared.fault.ReadCert.TheVariants as errors
use Rattle.cert_reader.specs.Fronts.{◌>>=◌, Fails, text_at, begins_with}
use Rattle.cert_reader.specs.CertLines.{row_lines}
use Rattle.cert_reader.specs.LineReading.{tail_at, block_at}
use Rattle.cert_reader.specs.CertReading.{nothing_at, closing_at, blocks_at, all_blocks_at}
use Rattle.cert_reader.proofs.Empty.{no-numbers, no_part, no_part-is}
use Rattle.cert_reader.proofs.Spells.{Any, Spells-text}
use Rattle.cert_reader.proofs.LineKinds.{Spells-tail, Spells-block}
use Rattle.cert_reader.proofs.Lines.{Reads, Reads-then, Reads-map, Reads-line, Reads-choice, Reads-choice-none, FirstTells}
use Rattle.cert_reader.proofs.Rows.{Reads-same, Reads-of}

abbrev pub IsEmpty : List ℕ → Type 0
IsEmpty rest = rest ≡ []

Reads-end : Reads Any IsEmpty (λ u. Unit {0}) (λ u. []) nothing_at
Reads-end = record {
  takes = λ line bytes x of e. took (eqb (length bytes) 0) line bytes x refl e;
  again = λ line u rest of fits ending. subst (λ bytes. nothing_at line bytes ≡ Ok (tt, bytes)) (sym ending) refl;
  stops = λ line u rest of fits some. (line, stopped (eqb (length rest) 0) line rest refl some);
  fails = λ line bytes l of e. (
    0,
    failed (eqb (length bytes) 0) line bytes l e,
    record {
      these = (tt, tt, omega arith, bytes, refl);
      no_more = λ has. absurd (omega (arith, has.2));
    },
  );
}
  where
    took : (b : Bool) (line : ℕ) (bytes : List ℕ) (x : Unit {0} × List ℕ) → eqb (length bytes) 0 ≡ b →
        cond {A = Result (Unit {0} × List ℕ) ℕ} b (Ok (tt, bytes)) (Err line) ≡ Ok x → (bytes ≡ x.1) × Unit {0}
        × IsEmpty x.1
    took true line bytes x empty e = (let same : bytes ≡ x.1 = cc in (same, tt, sym same ∙ nil_from_length bytes (eqb-true (length bytes) 0 empty)))
    took false line bytes x empty e = (let f : ⊥ = cc in absurd f)

    stopped : (b : Bool) (line : ℕ) (bytes : List ℕ) → eqb (length bytes) 0 ≡ b → (IsEmpty bytes → ⊥) →
        cond {A = Result (Unit {0} × List ℕ) ℕ} b (Ok (tt, bytes)) (Err line) ≡ Err line
    stopped true line bytes empty some = absurd (some (nil_from_length bytes (eqb-true (length bytes) 0 empty)))
    stopped false line bytes empty some = refl

    failed : (b : Bool) (line : ℕ) (bytes : List ℕ) (l : ℕ) → cond {A = Result (Unit {0} × List ℕ) ℕ} b (Ok (tt, bytes)) (Err line) ≡ Err l → l ≡ line + 0
    failed true line bytes l e = (let f : ⊥ = cc in absurd f)
    failed false line bytes l e = (let same : line ≡ l = cc in omega (arith, same))

Reads-closing : (shape : Shape) → IsShape shape → Reads Any IsEmpty (IsPart shape)
    (λ part. tail_line (codes "last") part ∷ codes "end\n" ∷ []) (closing_at shape)
unfolding closing_at
Reads-closing shape is =
    Reads-then {OC = Any} {OB = Any} {FB = λ a b. b ≡ a} {FC = IsPart shape} {lb = λ a b. codes "end\n" ∷ []} {lc =
    λ part. tail_line (codes "last") part ∷ codes "end\n" ∷ []} 1 (tail_at (codes "last") shape)
    (λ part line bytes. text_at (codes "end\n") line bytes >>= λ y. nothing_at (line + 1) y.1 >>= λ z. Ok (part, z.1))
    (Reads-line (tail_at (codes "last") shape) no_part (no_part-is shape) (Spells-tail (codes "last") shape is))
    (λ part fits. Reads-then {OC = Any} {OB = Any} {FA = λ u. Unit {0}} {FB = λ u b. b ≡ part} {FC =
    λ b. b ≡ part} {la = λ u. codes "end\n" ∷ []} {lb = λ u b. []} {lc = λ b. codes "end\n" ∷ []} 1
    (text_at (codes "end\n")) (λ u line bytes. nothing_at line bytes >>= λ z. Ok (part, z.1))
    (Reads-line (text_at (codes "end\n")) tt tt (Spells-text (codes "end\n")))
    (λ u fit. Reads-map {G = λ b. b ≡ part} nothing_at (λ v. part) (λ b. tt) Reads-end (λ v fit. (refl, refl)) (λ b fit. (tt, sym fit)))
    (record { count = λ u fit. refl; some = λ u fit. (part, refl); apart = λ b fit. (tt, tt, fit, refl); joined = λ u b one two. (two, refl) })
    (λ u rest fit of. tt))
    (record {
      count = λ part fit. refl;
      some = λ part fit. (part, refl);
      apart = λ b fit. (b, fit, refl, refl);
      joined = λ a b one two. (subst (IsPart shape) (sym two) one, ap (λ part. tail_line (codes "last") part ∷ codes "end\n" ∷ []) two);
    })
    (λ part rest fit of. tt)

-- blocks from k on
abbrev pub AreBlocks : Shape → ℕ → List CcfBlock → Type 0
AreBlocks shape k [] = Unit {0}
AreBlocks shape k (block ∷ blocks) = IsBlock shape k block × AreBlocks shape (k + 1) blocks

-- and the last tail
abbrev pub AreParts : Shape → ℕ → List CcfBlock × CcfPart → Type 0
AreParts shape k parts = AreBlocks shape k parts.0 × IsPart shape parts.1

abbrev pub parts_lines : ℕ → List CcfBlock × CcfPart → List (List ℕ)
parts_lines number parts = row_lines block_line number parts.0 ++ (tail_line (codes "last") parts.1 ∷ codes "end\n" ∷ [])

abbrev parts_of : List CcfBlock → CcfPart → List CcfBlock × CcfPart
parts_of blocks last = (blocks, last)

abbrev Some : Shape → ℕ → List CcfBlock → CcfPart → Type 0
Some shape k [] last = ⊥
Some shape k (block ∷ blocks) last = IsBlock shape k block × AreParts shape (k + 1) (blocks, last)

abbrev First : Shape → ℕ → CcfBlock → List CcfBlock → CcfPart → Type 0
First shape k a [] last = ⊥
First shape k a (block ∷ blocks) last = (block ≡ a) × AreParts shape (k + 1) (blocks, last)

abbrev Fewer : ℕ → List ℕ → Type 0
Fewer most bytes = length bytes < most

one-rises : (n : ℕ) → 0 < n → AreRising n (0 ∷ [])
one-rises n some = record { rising = λ k less. absurd (omega (arith, less)); below = λ k d less. first k d less }
  where
    first : (k d : ℕ) → k < length {A = ℕ} (0 ∷ []) → get_or {A = ℕ} (0 ∷ []) k d < n
    first zero d less = some
    first (suc k) d less = absurd (omega (arith, less))

-- a block of one column
abbrev one_block : CcfBlock
one_block = record { part = record { columns = 0 ∷ []; q_rows = []; t_rows = [] }; lower = [] }

some-block : (shape : Shape) (k : ℕ) → 0 < shape.columns → IsBlock shape k one_block
some-block shape k some = record {
  part = record {
    columns = one-rises shape.columns some;
    q_rows =
        no-numbers shape.q_rows;
    t_rows = no-numbers shape.t_rows;
  };
  some = omega arith;
  lower = no-numbers k;
}

no-block : (shape : Shape) (k : ℕ) (block : CcfBlock) → shape.columns ≡ 0 → IsBlock shape k block → ⊥
no-block shape k block none is = omega (arith, none, is.part.columns.below 0 0 is.some)

-- the line of a block is not empty
block-some : (number : ℕ) (block : CcfBlock) → 0 < length (block_line number block)
block-some number block = omega arith

block-told : (number : ℕ) (block : CcfBlock) (rest : List ℕ) → begins_with (codes "block") (block_line number block ++ rest) ≡ true
block-told number block rest = refl

last-told : (part : CcfPart) (rest : List ℕ) → begins_with (codes "block") (tail_line (codes "last") part ++ rest) ≡ false
last-told part rest = refl

-- the first block, and what follows it
Reads-first : (shape : Shape) (most k : ℕ) → IsShape shape → k < 10 ^ 10 → 0 < shape.columns →
    Reads (Fewer most) IsEmpty (AreParts shape (k + 1)) (parts_lines (k + 1 + 1)) (blocks_at shape most (k + 1)) →
    Reads (Fewer (suc most)) IsEmpty (λ (x : List CcfBlock × CcfPart). Some shape k x.0 x.1) (parts_lines (k + 1))
    (λ line bytes. block_at shape k line bytes >>= λ b. blocks_at shape most (k + 1) (line + 1) b.1 >>= λ t. Ok
    ((b.0 ∷ t.0.0, t.0.1), t.1))
Reads-first shape most k is small some others =
    Reads-then {OC = Fewer (suc most)} {OB = Fewer most} {FB =
    λ b (x : List CcfBlock × CcfPart). First shape k b x.0 x.1} {FC =
    λ (x : List CcfBlock × CcfPart). Some shape k x.0 x.1} {lb = λ b x. parts_lines (k + 1 + 1)
    (drop 1 x.0, x.1)} {lc = parts_lines (k + 1)} 1
    (block_at shape k) (λ b line bytes. blocks_at shape most (k + 1) line bytes >>= λ t. Ok ((b ∷ t.0.0, t.0.1), t.1))
    (Reads-line (block_at shape k) one_block (some-block shape k some) (Spells-block shape k is small))
    (λ b fit. Reads-map {G = λ (x : List CcfBlock × CcfPart). First shape k b x.0 x.1}
    (blocks_at shape most (k + 1)) (λ t. (b ∷ t.0, t.1)) (λ x. (drop 1 x.0, x.1)) others
    (λ t are. ((refl, are), refl)) (λ x first. back b x.0 x.1 first))
    (record {
      count = λ b fit. refl;
      some = λ b fit. ((b ∷ [], no_part), (refl, (tt, no_part-is shape)));
      apart = λ x fits. apart x.0 x.1 fits;
      joined = λ b x one two. joined b x.0 x.1 one two;
    })
    (λ b rest fit fewer. omega (
      arith,
      fewer,
      block-some (k + 1) b,
      length-append
          (concat (block_line (k + 1) b ∷ [])) rest,
      length-append (block_line (k + 1) b) [],
    ))
  where
    back : (b : CcfBlock) (blocks : List CcfBlock) (last : CcfPart) → First shape k b blocks last →
        AreParts shape (k + 1) (drop 1 blocks, last) × (parts_of (b ∷ drop 1 blocks) last ≡ parts_of blocks last)
    back b [] last first = absurd first
    back b (c ∷ cs) last first = (first.1, ap (λ z. (z ∷ cs, last)) (sym first.0))

    apart : (blocks : List CcfBlock) (last : CcfPart) → Some shape k blocks last → (b : CcfBlock) × IsBlock shape k b
        × First shape k b blocks last × (parts_lines (k + 1) (blocks, last) ≡
        (block_line (k + 1) b ∷ []) ++ parts_lines (k + 1 + 1) (drop 1 blocks, last))
    apart [] last fits = absurd fits
    apart (c ∷ cs) last fits = (c, fits.0, (refl, fits.1), refl)

    joined : (b : CcfBlock) (blocks : List CcfBlock) (last : CcfPart) → IsBlock shape k b →
        First shape k b blocks last → Some shape k blocks last
        × (parts_lines (k + 1) (blocks, last) ≡ (block_line (k + 1) b ∷ []) ++ parts_lines (k + 1 + 1)
        (drop 1 blocks, last))
    joined b [] last one two = absurd two
    joined b (c ∷ cs) last one two = (
      (subst (IsBlock shape k) (sym two.0) one, two.1),
      ap
          (λ z. block_line (k + 1) z ∷ parts_lines (k + 1 + 1) (cs, last)) two.0,
    )

-- no block
abbrev None : Shape → List CcfBlock → CcfPart → Type 0
None shape [] last = IsPart shape last
None shape (block ∷ blocks) last = ⊥

Reads-none : (shape : Shape) (most k : ℕ) → IsShape shape →
    Reads (Fewer most) IsEmpty (λ (x : List CcfBlock × CcfPart). None shape x.0 x.1) (parts_lines (k + 1))
    (λ line bytes. closing_at shape line bytes >>= λ x. Ok (([], x.0), x.1))
Reads-none shape most k is = Reads-same (Reads-of (Reads-map {G =
    λ (x : List CcfBlock × CcfPart). None shape x.0 x.1} (closing_at shape) (λ last. ([], last)) (λ x. x.1)
    (Reads-closing shape is) (λ last fit. (fit, refl)) (λ x none. back x.0 x.1 none)) (λ bytes fewer. tt))
    (λ x none. (none, same x.0 x.1 none)) (λ x none. none)
  where
    back : (blocks : List CcfBlock) (last : CcfPart) → None shape blocks last → IsPart shape last × (parts_of [] last ≡ parts_of blocks last)
    back [] last none = (none, refl)
    back (c ∷ cs) last none = absurd none

    same : (blocks : List CcfBlock) (last : CcfPart) → None shape blocks last →
        (tail_line (codes "last") last ∷ codes "end\n" ∷ []) ≡ parts_lines (k + 1) (blocks, last)
    same [] last none = refl
    same (c ∷ cs) last none = absurd none

none-tells : (shape : Shape) (k : ℕ) → FirstTells (λ (x : List CcfBlock × CcfPart). None shape x.0 x.1)
    (parts_lines (k + 1)) (λ bytes. begins_with (codes "block") bytes) false
none-tells shape k x none = by x.0 x.1 none
  where
    by : (blocks : List CcfBlock) (last : CcfPart) → None shape blocks last → (first : List ℕ)
        × (others : List (List ℕ)) × (parts_lines (k + 1) (blocks, last) ≡ first ∷ others)
        × ((rest : List ℕ) → begins_with (codes "block") (first ++ rest) ≡ false)
    by [] last none = (tail_line (codes "last") last, codes "end\n" ∷ [], refl, λ rest. last-told last rest)
    by (c ∷ cs) last none = absurd none

some-tells : (shape : Shape) (k : ℕ) → FirstTells (λ (x : List CcfBlock × CcfPart). Some shape k x.0 x.1)
    (parts_lines (k + 1)) (λ bytes. begins_with (codes "block") bytes) true
some-tells shape k x some = by x.0 x.1 some
  where
    by : (blocks : List CcfBlock) (last : CcfPart) → Some shape k blocks last → (first : List ℕ)
        × (others : List (List ℕ)) × (parts_lines (k + 1) (blocks, last) ≡ first ∷ others)
        × ((rest : List ℕ) → begins_with (codes "block") (first ++ rest) ≡ true)
    by [] last some = absurd some
    by (c ∷ cs) last some = (block_line (k + 1) c, parts_lines (k + 1 + 1) (cs, last), refl, λ rest. block-told (k + 1) c rest)

abbrev first_at : Shape → ℕ → ℕ → ℕ → List ℕ → Result ((List CcfBlock × CcfPart) × List ℕ) ℕ
first_at shape most k line bytes = block_at shape k line bytes >>= λ b. blocks_at shape most (k + 1) (line + 1) b.1 >>= λ t. Ok ((b.0 ∷ t.0.0, t.0.1), t.1)

abbrev none_at : Shape → ℕ → List ℕ → Result ((List CcfBlock × CcfPart) × List ℕ) ℕ
none_at shape line bytes = closing_at shape line bytes >>= λ x. Ok (([], x.0), x.1)

-- no certificate has a block where there is no column
never : (shape : Shape) (most k : ℕ) → IsShape shape → k < 10 ^ 10 → shape.columns ≡ 0 → (line : ℕ) (bytes : List ℕ) →
    first_at shape most k line bytes ≡ Err line
never shape most k is small none line bytes = by (block_at shape k line bytes) refl
  where
    abbrev_rest : CcfBlock × List ℕ → Result ((List CcfBlock × CcfPart) × List ℕ) ℕ
    abbrev_rest b = blocks_at shape most (k + 1) (line + 1) b.1 >>= λ t. Ok ((b.0 ∷ t.0.0, t.0.1), t.1)

    by : (r : Result (CcfBlock × List ℕ) ℕ) → block_at shape k line bytes ≡ r → first_at shape most k line bytes ≡ Err line
    by (Ok x) e = absurd (no-block shape k x.0 none ((Spells-block shape k is small).takes line bytes x e).1)
    by (Err l) e = ap (λ (r : Result (CcfBlock × List ℕ) ℕ). r >>= abbrev_rest) e ∙ ap (λ k. Err k) ((Spells-block shape k is small).fails line bytes l e)

pub Reads-blocks : (shape : Shape) (most k : ℕ) → IsShape shape → k + most < 10 ^ 10 →
    Reads (Fewer most) IsEmpty (AreParts shape k) (parts_lines (k + 1)) (blocks_at shape most k)
unfolding blocks_at
Reads-blocks shape zero k is small = record {
  takes = λ line bytes x of e. absurd (omega (arith, of));
  again = λ line a rest of fits ending. absurd (omega (arith, of));
  stops = λ line a rest of fits ending. absurd (omega (arith, of));
  fails = λ line bytes l of e. absurd (omega (arith, of));
}
Reads-blocks shape (suc most) k is small = by shape.columns refl (Reads-blocks shape most (k + 1) is (omega (arith, small)))
  where
    apart : (blocks : List CcfBlock) (last : CcfPart) → AreParts shape k (blocks, last) → Some shape k blocks last ⊎ None shape blocks last
    apart [] last are = inr are.1
    apart (c ∷ cs) last are = inl (are.0.0, (are.0.1, are.1))

    joined : (blocks : List CcfBlock) (last : CcfPart) → Some shape k blocks last ⊎ None shape blocks last → AreParts shape k (blocks, last)
    joined [] last (inl some) = absurd some
    joined [] last (inr none) = (tt, none)
    joined (c ∷ cs) last (inl some) = ((some.0, some.1.0), some.1.1)
    joined (c ∷ cs) last (inr none) = absurd none

    alone : (blocks : List CcfBlock) (last : CcfPart) → shape.columns ≡ 0 → AreParts shape k (blocks, last) → None shape blocks last
    alone [] last e are = are.1
    alone (c ∷ cs) last e are = absurd (no-block shape k c e are.0.0)

    by : (n : ℕ) → shape.columns ≡ n → Reads (Fewer most) IsEmpty (AreParts shape (k + 1)) (parts_lines (k + 1 + 1))
        (blocks_at shape most (k + 1)) → Reads (Fewer (suc most)) IsEmpty (AreParts shape k) (parts_lines (k + 1))
        (blocks_at shape (suc most) k)
    by zero e others = Reads-same (Reads-choice-none (λ bytes. begins_with (codes "block") bytes)
        (first_at shape most k) (none_at shape) (never shape most k is (omega (arith, small)) e)
        (Reads-none shape (suc most) k is) (none-tells shape k) (parts_of [] no_part) (no_part-is shape))
        (λ x none. (joined x.0 x.1 (inr none), refl)) (λ x are. alone x.0 x.1 e are)
    by (suc n) e others = Reads-same (Reads-choice (λ bytes. begins_with (codes "block") bytes)
        (first_at shape most k) (none_at shape) (Reads-first shape most k is (omega (arith, small))
        (omega (arith, e)) others) (Reads-none shape (suc most) k is) (some-tells shape k) (none-tells shape k))
        (λ x one. (joined x.0 x.1 one, refl)) (λ x are. apart x.0 x.1 are)

-- ---- as a loop reads them

-- the blocks that were read before, and what is still read
abbrev pub with_blocks : List CcfBlock → Result ((List CcfBlock × CcfPart) × List ℕ) ℕ → Result ((List CcfBlock × CcfPart) × List ℕ) ℕ
with_blocks front read = read >>= λ x. Ok ((front ++ x.0.0, x.0.1), x.1)

pub record BlocksSoFar (shape : Shape) (line : ℕ) (bytes : List ℕ) (front : List CcfBlock) (at : ℕ) (left : List ℕ) : Type 0 where
  pub read : (most : ℕ) × (length left < most) × (with_blocks front (blocks_at shape most (length front) at left) ≡ all_blocks_at shape line bytes)
  pub line_is : at ≡ line + length front
  pub room : length front + length left ≤ length bytes

abbrev one_more : List CcfBlock → List CcfBlock × CcfPart → List CcfBlock × CcfPart
one_more front x = (front ++ x.0, x.1)

blocks-regroup : (front : List CcfBlock) (b : CcfBlock) (read : Result ((List CcfBlock × CcfPart) × List ℕ) ℕ) →
    with_blocks front (read >>= λ x. Ok ((b ∷ x.0.0, x.0.1), x.1)) ≡ with_blocks (front ++ b ∷ []) read
blocks-regroup front b (Ok x) = ap (λ (zs : List CcfBlock). Ok ((zs, x.0.1), x.1)) (sym (append_assoc front (b ∷ []) x.0.0))
blocks-regroup front b (Err l) = refl

pub blocks_begin : (shape : Shape) (line : ℕ) (bytes : List ℕ) → BlocksSoFar shape line bytes [] line bytes
blocks_begin shape line bytes = record {
  read = (suc (length bytes), omega arith, same (all_blocks_at shape line bytes));
  line_is = omega arith;
  room = omega arith;
}
  where
    same : (read : Result ((List CcfBlock × CcfPart) × List ℕ) ℕ) → with_blocks [] read ≡ read
    same (Ok x) = refl
    same (Err l) = refl

pub block_short : (shape : Shape) (k line : ℕ) (bytes : List ℕ) (x : CcfBlock × List ℕ) → IsShape shape → k < 10 ^ 10 →
    block_at shape k line bytes ≡ Ok x → length x.1 < length bytes
block_short shape k line bytes x is small e = (let t = (Spells-block shape k is small).takes line bytes x e in
    omega (arith, ap length t.0, length-append (block_line (k + 1) x.0) x.1, block-some (k + 1) x.0))

pub blocks_further : (shape : Shape) (line : ℕ) (bytes : List ℕ) (front : List CcfBlock) (at : ℕ) (left : List ℕ) (b : CcfBlock) (after : List ℕ) →
    begins_with (codes "block") left ≡ true → block_at shape (length front) at left ≡ Ok (b, after) →
    length after < length left → BlocksSoFar shape line bytes front at left →
    BlocksSoFar shape line bytes (front ++ b ∷ []) (at + 1) after
unfolding blocks_at
blocks_further shape line bytes front at left b after begins read shorter so_far = record {
  read = by so_far.read.0 so_far.read.1 so_far.read.2;
  line_is = omega (arith, so_far.line_is, length-append front (b ∷ []));
  room = omega (arith, so_far.room, shorter, length-append front (b ∷ []));
}
  where
    by : (most : ℕ) → length left < most → with_blocks front (blocks_at shape most (length front) at left) ≡ all_blocks_at shape line bytes →
        (more : ℕ) × (length after < more) × (with_blocks (front ++ b ∷ [])
        (blocks_at shape more (length (front ++ b ∷ [])) (at + 1) after) ≡ all_blocks_at shape line bytes)
    by zero long e = absurd (omega (arith, long))
    by (suc most) long e =
        let count : length front + 1 ≡ length (front ++ b ∷ []) = omega (arith, length-append front (b ∷ [])) in
        let one : with_blocks front (blocks_at shape (suc most) (length front) at left) ≡ with_blocks
        (front ++ b ∷ []) (blocks_at shape most (length front + 1) (at + 1) after) =
        rw (begins, read) (blocks-regroup front b (blocks_at shape most (length front + 1) (at + 1) after)) in
        (most, omega (arith, long, shorter), ap (λ k. with_blocks (front ++ b ∷ []) (blocks_at shape most k (at + 1) after)) (sym count) ∙ sym one ∙ e)

pub blocks_break : (shape : Shape) (line : ℕ) (bytes : List ℕ) (front : List CcfBlock) (at : ℕ) (left : List ℕ) (e : ReadCert) →
    begins_with (codes "block") left ≡ true → Fails e (block_at shape (length front) at left) →
    BlocksSoFar shape line bytes front at left → Fails e (all_blocks_at shape line bytes)
unfolding blocks_at
blocks_break shape line bytes front at left errors.NoMemory begins failed so_far = tt
blocks_break shape line bytes front at left (errors.Refused l) begins failed so_far = by so_far.read.0 so_far.read.1 so_far.read.2
  where
    by : (most : ℕ) → length left < most → with_blocks front
        (blocks_at shape most (length front) at left) ≡ all_blocks_at shape line bytes →
        all_blocks_at shape line bytes ≡ Err l
    by zero long e = absurd (omega (arith, long))
    by (suc most) long e =
        let one : with_blocks front (blocks_at shape (suc most) (length front) at left) ≡ Err l = rw (begins, failed) refl in
        sym e ∙ one

pub blocks_fail : (shape : Shape) (line : ℕ) (bytes : List ℕ) (front : List CcfBlock) (at : ℕ) (left : List ℕ) (e : ReadCert) →
    begins_with (codes "block") left ≡ false → Fails e (closing_at shape at left) →
    BlocksSoFar shape line bytes front at left → Fails e (all_blocks_at shape line bytes)
unfolding blocks_at
blocks_fail shape line bytes front at left errors.NoMemory begins failed so_far = tt
blocks_fail shape line bytes front at left (errors.Refused l) begins failed so_far = by so_far.read.0 so_far.read.1 so_far.read.2
  where
    by : (most : ℕ) → length left < most → with_blocks front
        (blocks_at shape most (length front) at left) ≡ all_blocks_at shape line bytes →
        all_blocks_at shape line bytes ≡ Err l
    by zero long e = absurd (omega (arith, long))
    by (suc most) long e =
        let one : with_blocks front (blocks_at shape (suc most) (length front) at left) ≡ Err l = rw (begins, failed) refl in
        sym e ∙ one

pub blocks_done : (shape : Shape) (line : ℕ) (bytes : List ℕ) (front : List CcfBlock) (at : ℕ) (left : List ℕ) (last : CcfPart) (rest : List ℕ) →
    begins_with (codes "block") left ≡ false → closing_at shape at left ≡ Ok (last, rest) →
    BlocksSoFar shape line bytes front at left → all_blocks_at shape line bytes ≡ Ok ((front, last), rest)
unfolding blocks_at
blocks_done shape line bytes front at left last rest begins closed so_far = by so_far.read.0 so_far.read.1 so_far.read.2
  where
    by : (most : ℕ) → length left < most → with_blocks front
        (blocks_at shape most (length front) at left) ≡ all_blocks_at shape line bytes →
        all_blocks_at shape line bytes ≡ Ok ((front, last), rest)
    by zero long e = absurd (omega (arith, long))
    by (suc most) long e =
        let one : with_blocks front (blocks_at shape (suc most) (length front) at left) ≡ Ok ((front, last), rest) =
        rw (begins, closed) (ap (λ (zs : List CcfBlock). Ok ((zs, last), rest)) (append-nil front)) in
        sym e ∙ one
