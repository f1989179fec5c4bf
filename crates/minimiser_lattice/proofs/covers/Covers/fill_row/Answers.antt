use Rattle.std.proofs.Common.{◌≡◌, ◌≢◌, ◌<◌, ◌+◌, ◌-◌, ◌||◌, inl, inr, ℕ, get_or, ap, sym, subst, ◌∙◌, arith}
use Rattle.bit_table.specs.Bits.{bit_in}
use Rattle.minimiser_lattice.specs.Components.{component_number, component_places}
use Rattle.minimiser_lattice.specs.Listings.{listed_of}
use Rattle.minimiser_lattice.specs.Covers.{IsCoverPut, IsGathered, IsRowFrom, lower_count}
use Rattle.bit_table.proofs.BitLaws.{item_is}
use Rattle.minimiser_lattice.proofs.CoverLaws.{row-held, row-last, row-put}
use Rattle.minimiser_lattice.proofs.covers.Covers.fill_row.Goals as goal

pub loop-left-preserved-then-not-get : goal.loop-left-preserved-then-not-get
loop-left-preserved-then-not-get c =
    let cs = c.args.components.now in
    let l = c.args.listing.now in
    let n = component_places cs in
    let D = c.requires.listed in
    let s = c.loop-left.self in
    let t = c.put.new.self in
    let I = c.loop-left.invariant in
    let E = c.put.ensures in
    let filled = c.gather-left.result in
    let left = c.loop-left.left - 1 in
    let less : left < filled = omega (arith, c.loop-left-test.true, I.within) in
    let R : IsRowFrom n (bit_in cs.strict) (lower_count s) filled (listed_of l) l.blocks (bit_in s.table)
    (bit_in s.between 0) c.args.j (left + 1) =
    subst (λ (v : ℕ). IsRowFrom n (bit_in cs.strict) (lower_count s) filled (listed_of l) l.blocks (bit_in s.table)
    (bit_in s.between 0) c.args.j v) (omega (arith, c.loop-left-test.true)) I.row in
    let is : lower_count s left ≡ c.index-m.result.now = item_is s.lower.items left c.index-m.result.now
    (omega (arith, I.room.lower, less, c.gather-left.ensures.fits)) c.index-m.ensures in
    let one = λ (i k : ℕ) (il : i < l.blocks) (kl : k < l.blocks) (q : listed_of l i ≡ listed_of l k).
    sym (D.ranks i il) ∙ (ap (λ v. get_or l.rank.items v 0) q ∙ D.ranks k kl) in
    record {
      room = E.room;
      within = omega (arith, less);
      gathered = subst (λ v. IsGathered (bit_in cs.strict) (listed_of l c.args.j) (listed_of l c.args.j)
          (λ i. get_or v.items i 0) filled) (sym E.lower) I.gathered;
      row = subst (λ v. IsRowFrom n (bit_in cs.strict) (λ i. get_or v.items i 0) filled (listed_of l) l.blocks
          (bit_in t.table) (bit_in t.between 0) c.args.j left) (sym E.lower)
          (row-put n (component_number cs) cs.count (bit_in cs.strict) D.numbering (lower_count s) filled (listed_of l) l.blocks
          c.args.j D.below c.requires.j I.gathered (bit_in s.table) (bit_in s.between 0) left less R (bit_in t.table)
          (bit_in t.between 0)
          (ap (bit_in s.between 0) is ∙ (sym c.get.ensures ∙ c.if-not-get.true))
          (λ y yl. E.joined.here y yl ∙ ap (λ v. bit_in s.between 0 y || bit_in cs.strict v y) (sym is))
          (subst (λ v. IsCoverPut (bit_in s.table) (bit_in t.table) n (listed_of l) l.blocks c.args.j v) (sym is) E.put)
          D.fits one);
      others = λ k i il ne. others k i il ne E.put ∙ I.others k i il ne;
    }
  where
    others : (k i : ℕ) → i < component_places c.args.components.now → k ≢ c.args.j →
        IsCoverPut (bit_in c.loop-left.self.table) (bit_in c.put.new.self.table) (component_places c.args.components.now)
        (listed_of c.args.listing.now) c.args.listing.now.blocks c.args.j c.index-m.result.now →
        bit_in c.put.new.self.table k i ≡ bit_in c.loop-left.self.table k i
    others k i il ne (inl (b, bl, q, S)) = S.others k i il ne
    others k i il ne (inr (never, same)) = ap (λ f. f k i) same

pub loop-left-preserved : goal.loop-left-preserved
loop-left-preserved c =
    let cs = c.args.components.now in
    let l = c.args.listing.now in
    let n = component_places cs in
    let D = c.requires.listed in
    let s = c.loop-left.self in
    let I = c.loop-left.invariant in
    let filled = c.gather-left.result in
    let left = c.loop-left.left - 1 in
    let less : left < filled = omega (arith, c.loop-left-test.true, I.within) in
    let R : IsRowFrom n (bit_in cs.strict) (lower_count s) filled (listed_of l) l.blocks (bit_in s.table)
    (bit_in s.between 0) c.args.j (left + 1) =
    subst (λ (v : ℕ). IsRowFrom n (bit_in cs.strict) (lower_count s) filled (listed_of l) l.blocks (bit_in s.table)
    (bit_in s.between 0) c.args.j v) (omega (arith, c.loop-left-test.true)) I.row in
    let is : lower_count s left ≡ c.index-m.result.now = item_is s.lower.items left c.index-m.result.now
    (omega (arith, I.room.lower, less, c.gather-left.ensures.fits)) c.index-m.ensures in
    record {
      room = I.room;
      within = omega (arith, less);
      gathered = I.gathered;
      row = row-held n (component_number cs) cs.count (bit_in cs.strict) D.numbering (lower_count s) filled (listed_of l) l.blocks
          c.args.j D.below c.requires.j I.gathered (bit_in s.table) (bit_in s.between 0) left less R
          (ap (bit_in s.between 0) is ∙ (sym c.get.ensures ∙ c.if-not-get.false));
      others = I.others;
    }

pub returns-clause-row : goal.returns-clause-row
returns-clause-row c =
    let cs = c.args.components.now in
    let l = c.args.listing.now in
    let s = c.loop-left.self in
    let I = c.loop-left.invariant in
    let D = c.requires.listed in
    row-last (component_places cs) (component_number cs) cs.count (bit_in cs.strict) D.numbering (lower_count s) c.gather-left.result
    (listed_of l) l.blocks c.args.j D.below c.requires.j I.gathered (bit_in s.table) (bit_in s.between 0)
    (subst (λ (v : ℕ). IsRowFrom (component_places cs) (bit_in cs.strict) (lower_count s) c.gather-left.result (listed_of l) l.blocks
    (bit_in s.table) (bit_in s.between 0) c.args.j v) (omega (arith, c.loop-left-test.false)) I.row)
