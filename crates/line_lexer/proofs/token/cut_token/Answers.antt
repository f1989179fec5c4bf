use Rattle.std.proofs.Common.{◌≡◌, length, take, drop, not, unwrap_or, position, Some, ap, sym, subst, ◌∙◌}
use Rattle.std.specs.List.{position_or_len}
use Rattle.line_lexer.specs.Tokens.{is_blank}
use Rattle.line_lexer.specs.Cuts.{CutsToken}
use Rattle.line_lexer.proofs.PlaceLaws.{unwrap_or-position}
use Rattle.line_lexer.proofs.TokenLaws.{tokens_from-None, CutsToken-Some}
use Rattle.line_lexer.proofs.token.cut_token.Goals as goal

pub returns-in_err-skipped : goal.returns-in_err-skipped
returns-in_err-skipped c = rw c.from_residual.ensures (λ i. tokens_from-None i c.args.text.now (sym c.first_of_token.ensures ∙ c.in_err-skipped.was))

pub returns : goal.returns
returns c =
    let text = c.args.text.now in
    let skipped = c.in_ok-skipped.skipped in
    let n = c.unwrap_or-length.result in
    let after = c.split_at.ensures.back in
    let end : n ≡ position_or_len is_blank (drop skipped text) =
    c.unwrap_or-length.ensures
    ∙ ap (λ o. unwrap_or o (length c.split_at.result.1.now)) c.first_blank.ensures
    ∙ unwrap_or-position is_blank c.split_at.result.1.now
    ∙ ap (position_or_len is_blank) after in
    let found : position (λ byte. not (is_blank byte)) text ≡ Some skipped = sym c.first_of_token.ensures ∙ c.in_ok-skipped.was in
    subst (λ token. CutsToken text skipped token c.split_at-2.result.1.now) (sym (c.split_at-2.ensures.front ∙ ap (take n) after))
    (subst (λ rest. CutsToken text skipped (take n (drop skipped text)) rest) (sym (c.split_at-2.ensures.back ∙ ap (drop n) after))
    (CutsToken-Some text skipped n c.requires found end))
