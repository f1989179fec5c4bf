-- What was taken of a known input, and what was written where nothing was.
use Rattle.std.proofs.Common.{◌≡◌, ◌≤◌, ◌+◌, ℕ, List, [], ◌++◌, length, Option, Some, None, refl, sym, ap, subst, ◌∙◌, arith, append-nil}
use Rattle.std.proofs.lemmas.List.{length-append}
use Rattle.std.specs.Io.KnownBytes.{Keeps}
use Rattle.port_io.specs.Bytes.{Appended, Ended, Took, TookAtMost}

-- what was taken is no longer than the input
took_prefix : (input : List ℕ) (after : Option (List ℕ)) (read : List ℕ) → Took (Some input) after read → length read ≤ length input
took_prefix input None read took = absurd took
took_prefix input (Some rest) read took = let long : length input ≡ length read + length rest = ap length took ∙ length-append read rest in omega (arith, long)

-- what was taken to its end is the input
took_whole : (input : List ℕ) (after : Option (List ℕ)) (read : List ℕ) → Took (Some input) after read → Ended after → read ≡ input
took_whole input None read took ended = absurd took
took_whole input (Some rest) read took ended = sym (took ∙ ap (λ r. read ++ r) ended ∙ append-nil read)

at_input : (left after : Option (List ℕ)) (input read : List ℕ) → left ≡ Some input → Took left after read → Took (Some input) after read
at_input left after input read is took = let P : Option (List ℕ) → Type 0 = λ l. Took l after read in subst P is took

pub read_is : (left after : Option (List ℕ)) (input read : List ℕ) → left ≡ Some input → Took left after read → Ended after → read ≡ input
read_is left after input read is took ended = took_whole input after read (at_input left after input read is took) ended

pub read_within : (left after : Option (List ℕ)) (input read : List ℕ) → left ≡ Some input → Took left after read → length read ≤ length input
read_within left after input read is took = took_prefix input after read (at_input left after input read is took)

-- nothing was taken, and nothing was written
pub took_nothing : (left : Option (List ℕ)) → Took left left []
took_nothing None = tt
took_nothing (Some bytes) = refl

pub took_none : (most : ℕ) (left : Option (List ℕ)) → TookAtMost most left left
took_none most left = ([], omega arith, took_nothing left)

pub appended_nothing : (written : Option (List ℕ)) → Appended written written []
appended_nothing None = tt
appended_nothing (Some bytes) = sym (append-nil bytes)

-- what was written is kept
pub appended_kept : (a b c : Option (List ℕ)) (text : List ℕ) → Appended a b text → Keeps b c → Appended a c text
appended_kept None b c text appended kept = tt
appended_kept (Some a) None c text appended kept = absurd appended
appended_kept (Some a) (Some b) None text appended kept = absurd kept
appended_kept (Some a) (Some b) (Some c) text appended kept = kept ∙ appended
