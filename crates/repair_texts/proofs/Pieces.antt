-- What is left of the text of a repair once one of its pieces is put.
use Rattle.std.proofs.Common.{◌≡◌, ℕ, ◌+◌, ◌<◌, Bool, true, false, not, List, [], ◌++◌, length, get_or, drop, refl, ap}
use Rattle.residue_theory.proofs.SetLaws.{differ}
use Rattle.residue_theory.specs.Sets.{has}
use Rattle.text_writer.proofs.Putting.{drop_next}
use Rattle.mixed_model.specs.Names.{name_at}
use Rattle.repair_checker.specs.declared.repair.Level.{Level}
use Rattle.repair_texts.specs.RepairTexts.{drop_line, drop_line_unless, drop_lines, level_text, levels_text}

pub dropped-left : (names : List (List ℕ)) (kept costs : List ℕ) (i d : ℕ) → i < length costs →
    drop_lines names kept i (drop i costs)
    ≡ drop_line_unless (has kept i) (name_at names i) (get_or costs i d) ++ drop_lines names kept (i + 1) (drop (i + 1) costs)
dropped-left names kept costs i d within = ap (drop_lines names kept i) (drop_next costs i d within)

pub levels-left : {F : Type 0} (levels : List (Level F)) (i : ℕ) (d : Level F) → i < length levels →
    levels_text (drop i levels) ≡ level_text (get_or levels i d) ++ levels_text (drop (i + 1) levels)
levels-left {F} levels i d within = ap (levels_text {F = F}) (drop_next levels i d within)

-- the line of an equation, by what is told of its being kept
pub unless-dropped : (kept : Bool) (name : List ℕ) (cost : ℕ) → not kept ≡ true → drop_line name cost ≡ drop_line_unless kept name cost
unless-dropped false name cost told = refl
unless-dropped true name cost told = absurd (differ refl told)

pub unless-kept : (kept : Bool) (name : List ℕ) (cost : ℕ) → not kept ≡ false → [] ≡ drop_line_unless kept name cost
unless-kept true name cost told = refl
unless-kept false name cost told = absurd (differ told refl)
