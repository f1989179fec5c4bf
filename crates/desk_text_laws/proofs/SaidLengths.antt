-- The length of what a desk prints of a text.
use Rattle.std.proofs.Common.{◌≡◌, ℕ, suc, ◌+◌, ◌*◌, ◌≤◌, List, [], ◌∷◌, length, codes, refl, ap, sym, subst, arith}
use Rattle.std.proofs.Common.{mul-le-mul_right, suc-mul}
use Rattle.std.specs.Str.Lines.{strip_carriage_return}
use Rattle.std.proofs.lemmas.List.{length-append, length-map}
use Rattle.line_lexer.specs.Lines.{cut_at_feeds, lines_of}
use Rattle.mixed_matrices.specs.StructuralRanks.{IsStructuralRank}
use Rattle.mixed_model.specs.Layers.{layered_matrix_of}
use Rattle.mixed_model.specs.Models.{IsModel, MixedModel, mixed_matrix_of}
use Rattle.term_model.proofs.TextCounts.{bytes_of, cut-count, text-bytes}
use Rattle.ccf_builder.specs.declared.canonical.Parts.{Parts as Told}
use Rattle.edit_desk.specs.Desks.{IsAsked, IsChangedBy, IsReply, desk_limit, empty_models, model_at}
use Rattle.edit_desk.specs.declared.reply.Reply.{Reply}
use Rattle.edit_desk.specs.declared.reply.Reply.TheVariants.{Changed, Nothing, Parts, Refused}
use Rattle.desk_texts.specs.Rooms.{columns_said, parts_room}
use Rattle.desk_texts.specs.Said.{IsReplyText, IsSaid}
use Rattle.desk_texts.specs.Texts.{number_line}
use Rattle.desk_text_laws.specs.Laws.{TextsAreShort}
use Rattle.desk_text_laws.proofs.ReplyLengths.{number-line-short, parts-short, refused-short}
use Rattle.desk_text_laws.proofs.SmallModels.{AreSmall, columns-few, empty-small, rank-few, reply-small}

-- a list of texts, each of which fits in a room
longer : (lines own rest both room : ℕ) → own ≤ room → rest ≤ lines * room → both ≡ own + rest → both ≤ suc lines * room
longer lines own rest both room here later is = rw (suc-mul lines room) (omega (arith, here, later, is))

within : (lines most room text : ℕ) → text ≤ lines * room → lines ≤ most → text ≤ most * room
within lines most room text short few = omega (arith, short, mul-le-mul_right room few)

rank-limited : (p : ℕ) (model : MixedModel) (rank : ℕ) → IsModel p model → IsStructuralRank p (mixed_matrix_of model) rank → rank ≤ 8192
rank-limited p model rank is ranked =
    let u : length model.unknowns ≤ 4096 = is.unknowns.few in
    omega (arith, rank-few p (mixed_matrix_of model) rank ranked, u)

-- small models have layered matrices of at most so many columns
module _ (p n most : ℕ) (narrow : most ≡ columns_said n) where
  few-columns : most ≤ 8192
  few-columns = omega (arith, narrow)

  module _ (left : ℕ) (models : List MixedModel) (small : AreSmall p n left models) (line : List ℕ) (next : List MixedModel) where
    changed-short : (rank : ℕ) (own : List ℕ) → IsChangedBy p models line next rank → own ≡ number_line (codes "changed") rank →
        length own ≤ parts_room most
    changed-short rank own changed is =
        let few = rank-limited p changed.changed rank changed.edited.is_model changed.edited.rank_is in
        omega (arith, ap (λ text. length text) is, number-line-short (codes "changed") rank (omega arith) few)

    asked-short : (rank : ℕ) (parts : Told) (own : List ℕ) → IsAsked p models line rank parts → next ≡ models →
        IsReplyText next line (Parts rank parts) own → length own ≤ parts_room most
    asked-short rank parts own asked kept (k, layers, names, are, is) =
        let told = asked.told in
        let model : MixedModel = model_at models asked.model in
        let few = rank-limited p model rank (small asked.model).is_model told.rank_is in
        let named : IsModel p (model_at next k) = subst (λ (list : List MixedModel). IsModel p (model_at list k)) (sym kept) (small k).is_model in
        let low : told.layers.q.width ≤ most = omega (arith, narrow, columns-few p n left model told.layers (small asked.model) told.layered) in
        subst (λ (text : List ℕ). length text ≤ parts_room most) (sym is)
        (parts-short p (model_at next k) named layers (layered_matrix_of told.layers) parts told.parts_are most low few-columns rank few)

    reply-short : (reply : Reply) (own : List ℕ) → IsReply p models line next reply → IsReplyText next line reply own → length own ≤ parts_room most
    reply-short Nothing own replies is = omega (arith, ap (λ text. length text) is)
    reply-short (Refused why) own replies is = omega (arith, ap (λ text. length text) is, refused-short why)
    reply-short (Changed rank) own changed is = changed-short rank own changed is
    reply-short (Parts rank parts) own (asked, kept) says = asked-short rank parts own asked kept says

  said-short : (lines : List (List ℕ)) (models : List MixedModel) (text : List ℕ) → AreSmall p n (bytes_of lines) models →
      IsSaid p models lines text → length text ≤ length lines * parts_room most
  said-short [] models text small is = omega (arith, ap (λ text. length text) is)
  said-short (line ∷ lines) models text small (next, reply, own, rest, replies, says, later, is) =
      longer (length lines) (length own) (length rest) (length text) (parts_room most)
      (reply-short (length line + bytes_of lines) models small line next reply own replies says)
      (said-short lines next rest (reply-small p n (bytes_of lines) models line small next reply replies) later)
      (omega (arith, ap (λ text. length text) is, length-append own rest))

lines-few : (input : List ℕ) → length (lines_of input) ≤ length input
lines-few input = omega (arith, length-map (cut_at_feeds input) strip_carriage_return, cut-count input)

pub texts-short : TextsAreShort
texts-short p input text said =
    let n : ℕ = length input in
    within (length (lines_of input)) n (parts_room (columns_said n)) (length text)
    (said-short p n (columns_said n) refl (lines_of input) (empty_models desk_limit) text
    (empty-small p n (bytes_of (lines_of input)) desk_limit (text-bytes input)) said) (lines-few input)
