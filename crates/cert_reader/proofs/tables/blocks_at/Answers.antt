use Rattle.std.proofs.Common.{◌≡◌, ◌<◌, ◌+◌, true, Ok, length, sym, subst, ◌∙◌, arith}
use Rattle.std.specs.Prelude.{codes}
use Rattle.std.proofs.lemmas.Result.{err_from_is_err_and}
use Rattle.cert_reader.specs.Fronts.{Fails, begins_with}
use Rattle.cert_reader.specs.LineReading.{block_at}
use Rattle.cert_reader.proofs.Blocks.{BlocksSoFar, block_short, blocks_further, blocks_break, blocks_fail, blocks_done}
use Rattle.cert_reader.proofs.tables.blocks_at.Goals as goal

pub returns-in_err-block : goal.returns-in_err-block
returns-in_err-block c =
    let blocks = c.loop-blocks.blocks.items in
    let left = c.loop-blocks.rest.now in
    let error = c.in_err-block.field-0.0 in
    let same = err_from_is_err_and c.from_residual.result c.from_residual.ensures.1 in
    let going : begins_with (codes "block") left ≡ true = sym c.begins.ensures ∙ c.loop-blocks-test.true in
    let count : c.len.result ≡ length blocks = c.len.ensures ∙ c.loop-blocks.blocks.ok.0 in
    rw (same.1, same.2)
    (blocks_break c.args.shape c.args.line c.args.bytes.now blocks c.loop-blocks.at left error going
    (subst (λ k. Fails error (block_at c.args.shape k c.loop-blocks.at left)) count c.in_err-block.ensures) c.loop-blocks.invariant)

pub loop-blocks-smaller : goal.loop-blocks-smaller
loop-blocks-smaller c =
    let count : c.len.result ≡ length c.loop-blocks.blocks.items = c.len.ensures ∙ c.loop-blocks.blocks.ok.0 in
    block_short c.args.shape c.len.result c.loop-blocks.at c.loop-blocks.rest.now
    (c.in_ok-block.block, c.in_ok-block.after.now) c.requires.shape
    (omega (arith, count, c.loop-blocks.invariant.room, c.requires.short)) c.in_ok-block.ensures

pub loop-blocks-preserved : goal.loop-blocks-preserved
loop-blocks-preserved c =
    let blocks = c.loop-blocks.blocks.items in
    let at = c.loop-blocks.at in
    let left = c.loop-blocks.rest.now in
    let block = c.in_ok-block.block in
    let after = c.in_ok-block.after.now in
    let going : begins_with (codes "block") left ≡ true = sym c.begins.ensures ∙ c.loop-blocks-test.true in
    let count : c.len.result ≡ length blocks = c.len.ensures ∙ c.loop-blocks.blocks.ok.0 in
    let shorter : length after < length left = block_short c.args.shape c.len.result at left
    (block, after) c.requires.shape (omega (arith, count, c.loop-blocks.invariant.room, c.requires.short)) c.in_ok-block.ensures in
    subst (λ items. BlocksSoFar c.args.shape c.args.line c.args.bytes.now items (at + 1) after) (sym c.in_ok-push.ensures.items)
    (blocks_further c.args.shape c.args.line c.args.bytes.now blocks at left block after going
    (subst (λ k. block_at c.args.shape k at left ≡ Ok (block, after)) count c.in_ok-block.ensures) shorter c.loop-blocks.invariant)

pub returns-in_err-last : goal.returns-in_err-last
returns-in_err-last c =
    let same = err_from_is_err_and c.from_residual-in_err-last.result c.from_residual-in_err-last.ensures.1 in
    rw (same.1, same.2)
    (blocks_fail c.args.shape c.args.line c.args.bytes.now c.loop-blocks.blocks.items c.loop-blocks.at
    c.loop-blocks.rest.now c.in_err-last.field-0.0 (sym c.begins.ensures ∙ c.loop-blocks-test.false)
    c.in_err-last.ensures c.loop-blocks.invariant)

pub returns : goal.returns
returns c =
    blocks_done c.args.shape c.args.line c.args.bytes.now c.loop-blocks.blocks.items c.loop-blocks.at
    c.loop-blocks.rest.now c.in_ok-last.last c.in_ok-last.rest.now (sym c.begins.ensures ∙ c.loop-blocks-test.false)
    c.in_ok-last.ensures c.loop-blocks.invariant
