-- Each line has a reply.
use Rattle.std.proofs.Common.{◌≡◌, ℕ, ◌<◌, Bool, true, false, cond, is_some, List, [], ◌∷◌, length, codes, set}
use Rattle.std.proofs.Common.{Option, Some, None, unwrap_or, inl, inr, refl, ap, sym, subst, ◌∙◌, arith, get_or-set_same, get_or-set_other, length-set}
use Rattle.refusals.specs.declared.Why.{Why}
use Rattle.refusals.specs.declared.Why.TheVariants.{BadByte, BadNumber}
use Rattle.residue_theory.specs.Residues.{IsPrime}
use Rattle.residue_theory.proofs.SumLaws.{nat_cases}
use Rattle.line_lexer.specs.Tokens.{is_clean, words_of}
use Rattle.line_reader.proofs.Deciding.{both_kept, wanted}
use Rattle.mixed_matrices.specs.StructuralRanks.{IsStructuralRank}
use Rattle.mixed_pair_laws.proofs.GreatestRanks.{mixed-rank_exists}
use Rattle.mixed_model.specs.Models.{IsModel, MixedModel, empty_model, mixed_matrix_of}
use Rattle.model_edits.specs.Commands.{command_shape_rule, edit_rule, front_rule, line_front_rule, model_named, model_number_rule}
use Rattle.model_edits.proofs.OrderLaws.{named-below}
use Rattle.edit_desk.specs.Desks.{NamesModel, behind_rule, desk_rule, model_at}
use Rattle.edit_desk.specs.declared.reply.Reply.TheVariants.{Changed, Nothing, Parts as Told, Refused}
use Rattle.edit_desk.proofs.DeskLaws.{asked-reply, changed-by}
use Rattle.desk_existence_laws.specs.Laws.{AreModels, EachLineHasAReply, HasEdit, HasReply, HasTold}
use Rattle.desk_existence_laws.proofs.EditedModels.{IsCommand, command-is, each-edit}
use Rattle.desk_existence_laws.proofs.ToldModels.{each-told}

-- a clean line is refused by its words alone
clean-kept : (b : Bool) (rule : Option Why) → cond b rule (Some BadByte) ≡ None → (b ≡ true) × (rule ≡ None)
clean-kept true rule e = (refl, e)
clean-kept false rule e = absurd cc

number-found : (o : Option ℕ) → is_some o ≡ true → (k : ℕ) × (o ≡ Some k)
number-found None e = absurd cc
number-found (Some k) e = (k, refl)

-- no command is a word alone, and that of a number alone is a question
alone : (word : List ℕ) → IsCommand word 0 → ⊥
alone word (inl (is, many)) = omega (arith, many)
alone word (inr (inl (is, count))) = omega (arith, count)
alone word (inr (inr (inl (is, count)))) = omega (arith, count)
alone word (inr (inr (inr (inl (is, count))))) = omega (arith, count)
alone word (inr (inr (inr (inr (is, count))))) = omega (arith, count)

question : (word : List ℕ) → IsCommand word 1 → word ≡ codes "ask"
question word (inl (is, many)) = absurd (omega (arith, many))
question word (inr (inl (is, count))) = absurd (omega (arith, count))
question word (inr (inr (inl (is, count)))) = absurd (omega (arith, count))
question word (inr (inr (inr (inl (is, count))))) = absurd (omega (arith, count))
question word (inr (inr (inr (inr (is, count))))) = is

module _ (p : ℕ) (prime : IsPrime p) (big : 2 < p) (old : List MixedModel) (are : AreModels p old) (line : List ℕ) where
  kept-models : (i k : ℕ) (model : MixedModel) → k < length old → IsModel p model → IsModel p (model_at (set old k model) i)
  kept-models i k model kl is = elim (nat_cases i k) [
    | inl same ↦ subst (λ j. IsModel p (model_at (set old k model) j)) (sym same) (subst (IsModel p) (sym (get_or-set_same old k model empty_model kl)) is)
    | inr other ↦ subst (IsModel p) (sym (get_or-set_other old k i model empty_model other)) (are i)
  ]

  -- a model is named
  module _ (front : line_front_rule (length old) line ≡ None) (word number : List ℕ) (k : ℕ) (kl : k < length old) where
    asked : NamesModel (length old) line k word [] → word ≡ codes "ask" → HasReply p old line
    asked names is_ask = from (each-told p prime big (model_at old k) (are k))
      where
        from : HasTold p (model_at old k) → HasReply p old line
        from t = record {
          new = old;
          reply = Told t.rank t.parts;
          is_reply = asked-reply p old old line k (Told t.rank t.parts) front (subst (λ w. NamesModel (length old) line k w []) is_ask names) t.told refl;
          are_models = are;
          as_many = refl;
        }

    edited : (name : List ℕ) (words : List (List ℕ)) → NamesModel (length old) line k word (name ∷ words) →
        front_rule (length old) (word ∷ number ∷ name ∷ words) ≡ None → edit_rule p word (model_at old k) (name ∷ words) ≡ None → HasReply p old line
    edited name words names shape kept = from (each-edit p prime (length old) word number name words (model_at old k) (are k) shape kept)
      where
        from : HasEdit p word (name ∷ words) (model_at old k) → HasReply p old line
        from e = ranked (mixed-rank_exists p prime (mixed_matrix_of e.new))
          where
            ranked : (rank : ℕ) × IsStructuralRank p (mixed_matrix_of e.new) rank → HasReply p old line
            ranked (rank, is) = record {
              new = set old k e.new;
              reply = Changed rank;
              is_reply = changed-by p old line k word (name ∷ words) names (set old k e.new) e.new rank front kl refl
                  (record { kept = kept; edit = e.edit; is_model = e.is_model; rank_is = is });
              are_models = λ i. kept-models i k e.new kl e.is_model;
              as_many = length-set old k e.new;
            }

    by-words : (words : List (List ℕ)) → NamesModel (length old) line k word words → front_rule (length old) (word ∷ number ∷ words) ≡ None →
        edit_rule p word (model_at old k) words ≡ None → HasReply p old line
    by-words [] names shape kept =
        asked names (question word (command-is word 1 (both_kept (command_shape_rule word 1) (model_number_rule (length old) (number ∷ [])) shape).0))
    by-words (name ∷ words) names shape kept = edited name words names shape kept

  kept-line : (words : List (List ℕ)) → words_of line ≡ words → is_clean line ≡ true → line_front_rule (length old) line ≡ None →
      front_rule (length old) words ≡ None → behind_rule p old words ≡ None → HasReply p old line
  kept-line [] are_words clean front shape behind = record {
    new = old;
    reply = Nothing;
    is_reply = (clean, are_words, refl);
    are_models = are;
    as_many = refl;
  }
  kept-line (word ∷ []) are_words clean front shape behind = absurd (alone word (command-is word 0 (both_kept (command_shape_rule word 0) None shape).0))
  kept-line (word ∷ number ∷ words) are_words clean front shape behind =
      named (number-found (model_named (length old) number) (wanted (is_some (model_named (length old) number)) BadNumber
      (both_kept (command_shape_rule word (length (number ∷ words))) (model_number_rule (length old) (number ∷ words)) shape).1))
    where
      named : (k : ℕ) × (model_named (length old) number ≡ Some k) → HasReply p old line
      named (k, is) = by-words front word number k (named-below (length old) k number is) words
          (record { number = number; named = is; words_are = are_words }) shape
          (sym (ap (λ o. edit_rule p word (model_at old (unwrap_or o 0)) words) is) ∙ behind)

  reply : HasReply p old line
  reply = by (desk_rule p old line) refl
    where
      by : (o : Option Why) → desk_rule p old line ≡ o → HasReply p old line
      by (Some why) e = record { new = old; reply = Refused why; is_reply = (e, refl); are_models = are; as_many = refl }
      by None e =
          let both = both_kept (line_front_rule (length old) line) (behind_rule p old (words_of line)) e in
          let clean = clean-kept (is_clean line) (front_rule (length old) (words_of line)) both.0 in
          kept-line (words_of line) refl clean.0 both.0 clean.1 both.1

pub each-reply : EachLineHasAReply
each-reply p prime big old are line = reply p prime big old are line
