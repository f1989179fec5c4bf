-- Numbers that are put into the lists of their parts, one after the other.
use Rattle.std.proofs.Common.{◌≡◌, ◌≢◌, ℕ, ◌+◌, ◌<◌, List, length, slice_get, slice_index_or, Some}
use Rattle.std.proofs.Common.{unwrap_or, inl, inr, ap, sym, ◌∙◌, subst, arith}
use Rattle.std.specs.Global.{Vec}
use Rattle.residue_theory.proofs.SumLaws.{nat_cases}
use Rattle.minimiser_lattice.specs.declared.lattice.Part.{Part}
use Rattle.minimiser_lattice.specs.declared.lattice.Part.TheVariants.{First, Block, Last}
use Rattle.ccf_builder.specs.declared.part_lists.PartLists.{PartLists}
use Rattle.ccf_builder.specs.Placings.{AreEmpty, IsListedAtPart, ListsBelow, ListsParts}
use Rattle.ccf_builder.proofs.MemberLists.{lists-more, lists-none, lists-same}

abbrev code : Part → ℕ
code First = 0
code Last = 1
code (Block k) = k + 2

module _ (parts : List Part) where
  abbrev Of : Part → ℕ → Type 0
  Of part x = slice_get parts x ≡ Some part

  pub entered-none : (b : ℕ) (lists : PartLists) → AreEmpty b lists → ListsParts parts 0 b lists
  entered-none b lists empty = record {
    first = subst (ListsBelow (Of First) 0) (sym empty.first) (lists-none (Of First));
    count = empty.count;
    blocks_are = λ k d kl. subst (ListsBelow (Of (Block k)) 0) (sym (empty.blocks_are k d kl)) (lists-none (Of (Block k)));
    last = subst (ListsBelow (Of Last) 0) (sym empty.last) (lists-none (Of Last));
  }

  module _ (n b : ℕ) (old : PartLists) (lists : ListsParts parts n b old) where
    apart : (part other : Part) → Of part n → code part ≢ code other → Of other n → ⊥
    apart part other is differs is_other = differs (ap (λ o. code (unwrap_or o First)) (sym is ∙ is_other))

    first-same : (part : Part) → Of part n → code part ≢ 0 → ListsBelow (Of First) (n + 1) old.first.items
    first-same part is differs = lists-same (Of First) n old.first.items lists.first (apart part First is differs)

    last-same : (part : Part) → Of part n → code part ≢ 1 → ListsBelow (Of Last) (n + 1) old.last.items
    last-same part is differs = lists-same (Of Last) n old.last.items lists.last (apart part Last is differs)

    block-same : (part : Part) (j : ℕ) (d : Vec ℕ) → Of part n → code part ≢ j + 2 → j < b →
        ListsBelow (Of (Block j)) (n + 1) (slice_index_or old.blocks.items j d).items
    block-same part j d is differs jb =
        lists-same (Of (Block j)) n (slice_index_or old.blocks.items j d).items (lists.blocks_are j d jb) (apart part (Block j) is differs)

    pub entered-one : (new : PartLists) (part : Part) → Of part n → IsListedAtPart old new part n → ListsParts parts (n + 1) b new
    entered-one new First is (first, blocks, last) = record {
      first = subst (ListsBelow (Of First) (n + 1)) (sym first) (lists-more (Of First) n old.first.items lists.first is);
      count = subst (λ (v : Vec (Vec ℕ)). length v.items ≡ b) (sym blocks) lists.count;
      blocks_are = λ j d jb. subst (λ (v : Vec (Vec ℕ)). ListsBelow (Of (Block j)) (n + 1) (slice_index_or v.items j d).items) (sym blocks)
          (block-same First j d is (λ e. absurd (omega (arith, e))) jb);
      last = subst (λ (v : Vec ℕ). ListsBelow (Of Last) (n + 1) v.items) (sym last)
          (last-same First is (λ e. absurd (omega (arith, e))));
    }
    entered-one new Last is (first, blocks, last) = record {
      first = subst (λ (v : Vec ℕ). ListsBelow (Of First) (n + 1) v.items) (sym first)
          (first-same Last is (λ e. absurd (omega (arith, e))));
      count = subst (λ (v : Vec (Vec ℕ)). length v.items ≡ b) (sym blocks) lists.count;
      blocks_are = λ j d jb. subst (λ (v : Vec (Vec ℕ)). ListsBelow (Of (Block j)) (n + 1) (slice_index_or v.items j d).items) (sym blocks)
          (block-same Last j d is (λ e. absurd (omega (arith, e))) jb);
      last = subst (ListsBelow (Of Last) (n + 1)) (sym last) (lists-more (Of Last) n old.last.items lists.last is);
    }
    entered-one new (Block k) is (first, pushed, last) = record {
      first = subst (λ (v : Vec ℕ). ListsBelow (Of First) (n + 1) v.items) (sym first)
          (first-same (Block k) is (λ e. absurd (omega (arith, e))));
      count = pushed.count ∙ lists.count;
      blocks_are = λ j d jb. elim (nat_cases j k) [
        | inl same ↦
            let kb : k < b = omega (arith, same, jb) in
            let long : k < length old.blocks.items = subst (λ m. k < m) (sym lists.count) kb in
            subst (λ i. ListsBelow (Of (Block i)) (n + 1) (slice_index_or new.blocks.items i d).items) (sym same)
            (subst (ListsBelow (Of (Block k)) (n + 1)) (sym (pushed.here d long))
            (lists-more (Of (Block k)) n (slice_index_or old.blocks.items k d).items (lists.blocks_are k d kb) is))
        | inr other ↦ subst (λ (v : Vec ℕ). ListsBelow (Of (Block j)) (n + 1) v.items) (sym (pushed.others j d other))
            (block-same (Block k) j d is (λ e. other (omega (arith, e))) jb)
      ];
      last = subst (λ (v : Vec ℕ). ListsBelow (Of Last) (n + 1) v.items) (sym last)
          (last-same (Block k) is (λ e. absurd (omega (arith, e))));
    }
