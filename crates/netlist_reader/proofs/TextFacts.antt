-- Worked texts: refusals, and a model.
use Rattle.std.proofs.Common.{◌≡◌, ℕ, zero, suc, cond, ◌<◌, Bool, true, false, eqb, List, [], ◌∷◌, length, All}
use Rattle.std.proofs.Common.{Option, Some, None, unwrap_or, codes, refl, sym, ap, ◌∙◌, arith, get_or, inl, inr}
use Rattle.std.specs.List.{list_all, range_with_len, IsDistinct}
use Rattle.std.proofs.lemmas.Bool.{eqb-true}
use Rattle.std.proofs.lemmas.List.Elements.{All-cons}
use Rattle.std.proofs.lemmas.List.Sums.{AllPass-from_list_all}
use Rattle.std.proofs.lemmas.List.FromFn.{get_or-range_with_len, length-range_with_len}
use Rattle.refusals.specs.declared.Place.TheVariants.{Line, Document}
use Rattle.refusals.specs.declared.Why.{Why}
use Rattle.refusals.specs.declared.Why.TheVariants.{BadShape, Twice, Unsupported, NoGround, NoSuchSource}
use Rattle.line_lexer.specs.Lines.{lines_of}
use Rattle.mixed_model.specs.Entries.{RowEntry}
use Rattle.mixed_model.specs.Models.{constant_at, symbol_of}
use Rattle.mixed_model.specs.Names.{IsNameList, is_label}
use Rattle.mixed_model.specs.Rows.{IsRow, AreColumnsBelow, IsNotEmpty}
use Rattle.term_model.specs.Terms.{said_of, symbol_said}
use Rattle.netlist_reader.specs.Terms.{terms_of}
use Rattle.netlist_devices.specs.Rules.{device_rules}
use Rattle.netlist_reader.specs.Models.{GivesModel, IsRefusal, lines_in, source_rule_at}
use Rattle.line_reader.specs.LineRules.{rule_at}
use Rattle.netlist_reader.specs.Examples.{refusal, two_lines, constant_entry, symbol_entry, controlled_source, controlled_text, controlled_model}

-- a rule that line 0 keeps is kept before line 1
one_kept : (rule : ℕ → Option Why) → rule 0 ≡ None → (k : ℕ) → k < 1 → rule k ≡ None
one_kept rule kept zero at = kept
one_kept rule kept (suc k) at = absurd omega arith

two_kept : (rule : ℕ → Option Why) → rule 0 ≡ None → rule 1 ≡ None → (k : ℕ) → k < 2 → rule k ≡ None
two_kept rule kept next zero at = kept
two_kept rule kept next (suc zero) at = next
two_kept rule kept next (suc (suc k)) at = absurd omega arith

-- what the rules of a line say at a line of a text
abbrev line_at : List ℕ → ℕ → Option Why
line_at text = rule_at (device_rules 65521) (lines_of text)

-- the first line of a text that breaks no rule before it
broken_first : (text : List ℕ) (why : Why) → 0 < length (lines_of text) → line_at text 0 ≡ Some why → IsRefusal 65521 text (refusal (Line 1) why)
broken_first text why some here = inl (0, why, refl, record { within = some; before = λ k at. absurd omega arith; here = here })

pub no_ground : IsRefusal 65521 (codes "R1 a b") (refusal Document NoGround)
no_ground = inr (inl (NoGround, refl, one_kept (line_at (codes "R1 a b")) refl, refl))

pub no_source : IsRefusal 65521 (codes "F1 a 0 V9") (refusal (Line 1) NoSuchSource)
no_source = inr (inr (
  0,
  NoSuchSource,
  refl,
  one_kept (line_at (codes "F1 a 0 V9")) refl,
  refl,
  record { within = omega arith; before = λ k at. absurd omega arith; here = refl },
))

pub unsupported : IsRefusal 65521 (codes "D1 a 0") (refusal (Line 1) Unsupported)
unsupported = broken_first (codes "D1 a 0") Unsupported (omega arith) refl

pub shape : IsRefusal 65521 (codes "R1 a") (refusal (Line 1) BadShape)
shape = broken_first (codes "R1 a") BadShape (omega arith) refl

pub twice : IsRefusal 65521 (two_lines (codes "R1 a 0") (codes "R1 a 0")) (refusal (Line 2) Twice)
twice = inl (
  1,
  Twice,
  refl,
  record {
    within = omega arith;
    before = one_kept (line_at (two_lines (codes "R1 a 0") (codes "R1 a 0"))) refl;
    here = refl;
  },
)

-- what a test says of all numbers below n
below : (n : ℕ) (test : ℕ → Bool) → list_all test (range_with_len 0 n) ≡ true → (k : ℕ) → k < n → test k ≡ true
below n test all k at =
    ap test (sym (get_or-range_with_len 0 n k 0 at ∙ omega arith))
    ∙ AllPass-from_list_all test (range_with_len 0 n) all k 0 (omega (arith, length-range_with_len 0 n))

-- numbers that are the same at all places below m and n
same_below : (m n : ℕ) (f g : ℕ → ℕ → ℕ) → list_all (λ i. list_all (λ j. eqb (f i j) (g i j)) (range_with_len 0 n))
    (range_with_len 0 m) ≡ true → (i j : ℕ) → i < m → j < n → f i j ≡ g i j
same_below m n f g all i j at col =
    eqb-true (f i j) (g i j) (below n (λ j. eqb (f i j) (g i j)) (below m (λ i. list_all (λ j. eqb (f i j) (g i j)) (range_with_len 0 n)) all i at) j col)

same_bool : (a b : Bool) → ◌≡◌ {A = ℕ} (cond a 1 0) (cond b 1 0) → a ≡ b
same_bool true true e = refl
same_bool false false e = refl
same_bool true false e = absurd omega (arith, e)
same_bool false true e = absurd omega (arith, e)

constant_filled : (j n : ℕ) → 0 < n → n < 65521 → IsNotEmpty 65521 (constant_entry j n)
constant_filled j n positive small = record {
  some = refl;
  positive = λ c e. let same : n ≡ c = ap (λ o. unwrap_or o 0) e in omega (arith, same, positive);
  residue = λ c e. let same : n ≡ c = ap (λ o. unwrap_or o 0) e in omega (arith, same, small);
}

symbol_filled : (j : ℕ) → IsNotEmpty 65521 (symbol_entry j)
symbol_filled j = record {
  some = refl;
  positive = λ c e. let f : None ≡ Some c = e in absurd cc;
  residue = λ c e. let f : None ≡ Some c = e in absurd cc;
}

abbrev IsBelow : RowEntry → Type 0
IsBelow entry = entry.column < 7

abbrev IsGood : List RowEntry → Type 0
IsGood row = IsRow 65521 row × AreColumnsBelow 7 row

within_none : All IsBelow []
within_none i d at = absurd omega arith

rows_none : All IsGood []
rows_none i d at = absurd omega arith

rows_good : All IsGood controlled_model.rows
rows_good =
    All-cons IsGood (constant_entry 3 1 ∷ []) ((constant_entry 5 1 ∷ []) ∷
    (constant_entry 0 65520 ∷ constant_entry 2 1 ∷ []) ∷ (constant_entry 2 1 ∷ []) ∷
    (constant_entry 1 65520 ∷ constant_entry 4 1 ∷ []) ∷ (constant_entry 0 65520 ∷ constant_entry 6 1 ∷ []) ∷
    (symbol_entry 4 ∷ symbol_entry 6 ∷ []) ∷ [])
    ((omega arith, constant_filled 3 1 (omega arith) (omega arith), tt), All-cons IsBelow (constant_entry 3 1) ([]) (omega arith) (within_none))
    (All-cons IsGood (constant_entry 5 1 ∷ []) ((constant_entry 0 65520 ∷ constant_entry 2 1 ∷ []) ∷
    (constant_entry 2 1 ∷ []) ∷ (constant_entry 1 65520 ∷ constant_entry 4 1 ∷ []) ∷
    (constant_entry 0 65520 ∷ constant_entry 6 1 ∷ []) ∷ (symbol_entry 4 ∷ symbol_entry 6 ∷ []) ∷ [])
    ((omega arith, constant_filled 5 1 (omega arith) (omega arith), tt), All-cons IsBelow (constant_entry 5 1) ([]) (omega arith) (within_none))
    (All-cons IsGood (constant_entry 0 65520 ∷ constant_entry 2 1 ∷ [])
    ((constant_entry 2 1 ∷ []) ∷ (constant_entry 1 65520 ∷ constant_entry 4 1 ∷ []) ∷
    (constant_entry 0 65520 ∷ constant_entry 6 1 ∷ []) ∷ (symbol_entry 4 ∷ symbol_entry 6 ∷ []) ∷ []) (
      (
        omega arith,
        constant_filled 0 65520 (omega arith) (omega arith),
        (omega arith, constant_filled 2 1 (omega arith) (omega arith), tt),
      ),
      All-cons IsBelow
          (constant_entry 0 65520) (constant_entry 2 1 ∷ []) (omega arith) (All-cons IsBelow (constant_entry 2 1) ([])
          (omega arith) (within_none)),
    )
    (All-cons IsGood (constant_entry 2 1 ∷ []) ((constant_entry 1 65520 ∷ constant_entry 4 1 ∷ []) ∷
    (constant_entry 0 65520 ∷ constant_entry 6 1 ∷ []) ∷ (symbol_entry 4 ∷ symbol_entry 6 ∷ []) ∷ [])
    ((omega arith, constant_filled 2 1 (omega arith) (omega arith), tt), All-cons IsBelow (constant_entry 2 1) ([]) (omega arith) (within_none))
    (All-cons IsGood (constant_entry 1 65520 ∷ constant_entry 4 1 ∷ [])
    ((constant_entry 0 65520 ∷ constant_entry 6 1 ∷ []) ∷ (symbol_entry 4 ∷ symbol_entry 6 ∷ []) ∷ []) (
      (
        omega arith,
        constant_filled 1 65520 (omega arith) (omega arith),
        (omega arith, constant_filled 4 1 (omega arith) (omega arith), tt),
      ),
      All-cons IsBelow
          (constant_entry 1 65520) (constant_entry 4 1 ∷ []) (omega arith) (All-cons IsBelow (constant_entry 4 1) ([])
          (omega arith) (within_none)),
    )
    (All-cons IsGood (constant_entry 0 65520 ∷ constant_entry 6 1 ∷ []) ((symbol_entry 4 ∷ symbol_entry 6 ∷ []) ∷ []) (
      (
        omega arith,
        constant_filled 0 65520 (omega arith) (omega arith),
        (omega arith, constant_filled 6 1 (omega arith) (omega arith), tt),
      ),
      All-cons IsBelow
          (constant_entry 0 65520) (constant_entry 6 1 ∷ []) (omega arith) (All-cons IsBelow (constant_entry 6 1) ([])
          (omega arith) (within_none)),
    )
    (All-cons IsGood (symbol_entry 4 ∷ symbol_entry 6 ∷ []) ([]) (
      (omega arith, symbol_filled 4, (omega arith, symbol_filled 6, tt)),
      All-cons IsBelow (symbol_entry 4)
          (symbol_entry 6 ∷ []) (omega arith) (All-cons IsBelow (symbol_entry 6) ([]) (omega arith) (within_none)),
    )
    (rows_none)))))))

equation_names : IsNameList controlled_model.equations
unfolding IsDistinct
equation_names = record {
  labels = AllPass-from_list_all is_label controlled_model.equations refl;
  few = omega arith;
  distinct = (
    (refl, (refl, (refl, (refl, (refl, (refl, tt)))))),
    (
      (refl, (refl, (refl, (refl, (refl, tt))))),
      (
        (refl, (refl, (refl, (refl, tt)))),
        (
          (refl, (refl, (refl, tt))),
          ((refl, (refl, tt)), ((refl, tt), (tt, tt))),
        ),
      ),
    ),
  );
}

unknown_names : IsNameList controlled_model.unknowns
unfolding IsDistinct
unknown_names = record {
  labels = AllPass-from_list_all is_label controlled_model.unknowns refl;
  few = omega arith;
  distinct = (
    (refl, (refl, (refl, (refl, (refl, (refl, tt)))))),
    (
      (refl, (refl, (refl, (refl, (refl, tt))))),
      (
        (refl, (refl, (refl, (refl, tt)))),
        (
          (refl, (refl, (refl, tt))),
          ((refl, (refl, tt)), ((refl, tt), (tt, tt))),
        ),
      ),
    ),
  );
}

-- what is said of a place of the controlled source
abbrev constant_said : ℕ → ℕ → ℕ
constant_said i j =
    said_of 65521 (terms_of 65521 controlled_source) (get_or controlled_model.equations i []) (get_or controlled_model.unknowns j [])

abbrev symbol_there : ℕ → ℕ → Bool
symbol_there i j = symbol_said (terms_of 65521 controlled_source) (get_or controlled_model.equations i []) (get_or controlled_model.unknowns j [])

pub controlled : GivesModel 65521 controlled_text controlled_model
controlled = record {
  kept = two_kept (line_at controlled_text) refl refl;
  grounded = refl;
  sources = two_kept (source_rule_at 65521 (lines_in 65521 controlled_text)) refl refl;
  given = record {
    is_model = record { equations = equation_names; unknowns = unknown_names; one_row_each = refl; rows = rows_good };
    equations_are = refl;
    unknowns_are = refl;
    constants_are = same_below 7 7 (constant_at controlled_model) constant_said refl;
    symbols_are = λ i j at col. same_bool (symbol_of controlled_model i j) (symbol_there i j)
        (same_below 7 7 (λ i j. cond (symbol_of controlled_model i j) 1 0) (λ i j. cond (symbol_there i j) 1 0) refl i j at col);
  };
}
