-- Texts put last, one by one.
use Rattle.std.proofs.Common.{◌≡◌, ℕ, ◌+◌, ◌<◌, List, [], ◌∷◌, ◌++◌, map, take, length, get_or, sym, ap, ◌∙◌, append_assoc, append-nil}
use Rattle.std.specs.List.{flat_map}
use Rattle.std.proofs.lemmas.List.{map-append, take_more}
use Rattle.std.proofs.lemmas.Grind.{flat_map-append}
use Rattle.std.proofs.lemmas.List.Concat.{flat_map-cons}

-- one text more, of the next of some things
pub one_text_more : {X Y : Type 0} (seen : X → List ℕ) (name : Y → List ℕ) (texts : List X) (text : X)
    (start : List (List ℕ)) (things : List Y) (i : ℕ) (d : Y) → i < length things
    → map seen texts ≡ start ++ map name (take i things) → seen text ≡ name (get_or things i d)
    → map seen (texts ++ text ∷ []) ≡ start ++ map name (take (i + 1) things)
one_text_more seen name texts text start things i d within before same =
    map-append seen texts (text ∷ [])
    ∙ (λ k. before k ++ same k ∷ [])
    ∙ append_assoc start (map name (take i things)) (name (get_or things i d) ∷ [])
    ∙ ap (λ more. start ++ more) (sym (map-append name (take i things) (get_or things i d ∷ [])))
    ∙ ap (λ taken. start ++ map name taken) (sym (take_more things i d within))

-- the texts of one thing more
pub texts_more : {Y : Type 0} (names : Y → List (List ℕ)) (texts more start : List (List ℕ)) (things : List Y) (i : ℕ) (d : Y) → i < length things
    → texts ≡ start ++ flat_map names (take i things) → more ≡ texts ++ names (get_or things i d)
    → more ≡ start ++ flat_map names (take (i + 1) things)
texts_more names texts more start things i d within before put =
    put
    ∙ ap (λ front. front ++ names (get_or things i d)) before
    ∙ append_assoc start (flat_map names (take i things)) (names (get_or things i d))
    ∙ ap (λ last. start ++ (flat_map names (take i things) ++ last)) (sym (flat_map-cons names (get_or things i d) [] ∙ append-nil (names (get_or things i d))))
    ∙ ap (λ all. start ++ all) (sym (flat_map-append names (take i things) (get_or things i d ∷ [])))
    ∙ ap (λ taken. start ++ flat_map names taken) (sym (take_more things i d within))

-- four lists put last, one after the other
pub put_four : {A : Type 0} (s0 s1 s2 s3 s4 a b c d : List A) → s1 ≡ s0 ++ a → s2 ≡ s1 ++ b → s3 ≡ s2 ++ c → s4 ≡ s3 ++ d → s4 ≡ s0 ++ (a ++ (b ++ c ++ d))
put_four s0 s1 s2 s3 s4 a b c d first second third fourth =
    fourth
    ∙ ap (λ s. s ++ d) (third ∙ ap (λ s. s ++ c) (second ∙ ap (λ s. s ++ b) first))
    ∙ ap (λ s. s ++ c ++ d) (append_assoc s0 a b)
    ∙ ap (λ s. s ++ d) (append_assoc s0 (a ++ b) c)
    ∙ append_assoc s0 (a ++ b ++ c) d
    ∙ ap (λ s. s0 ++ s) (ap (λ s. s ++ d) (append_assoc a b c) ∙ append_assoc a (b ++ c) d)
