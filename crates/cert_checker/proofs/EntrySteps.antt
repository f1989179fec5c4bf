-- A row to which entries are added, one after the other.
use Rattle.std.proofs.Common.{◌≡◌, ℕ, zero, suc, ◌+◌, ◌*◌, ◌%◌, ◌<◌, ◌≤◌, ◌≢◌, ◌⊎◌, cond, eqb, List, [], ◌∷◌, length}
use Rattle.std.proofs.Common.{map, drop, slice_index, slice_set, inl, inr, refl, ap, sym, subst, ◌∙◌, arith}
use Rattle.std.specs.List.Sorted.{IsStrictlyIncreasing}
use Rattle.std.proofs.lemmas.List.{get_or-set_same, get_or-set_other}
use Rattle.std.proofs.Math.Nat.{mod-add-mod, mod-mod}
use Rattle.residue_theory.proofs.SetLaws.{not_true, eqb_true, eqb_from}
use Rattle.residue_theory.specs.Sets.{everything, without}
use Rattle.residue_theory.specs.Sums.{sum_on, sum_below}
use Rattle.residue_theory.proofs.SumLaws.{nat_cases, sum_on-without, sum_on-ext, sum_on-none, without-member}
use Rattle.cert_text.specs.Readings.{entry_at, matrix_of}
use Rattle.cert_checker.specs.Gathering.{IsAddedRow}

abbrev pub AreKeysRising : List (ℕ × ℕ) → Type 0
AreKeysRising entries = IsStrictlyIncreasing (map (λ entry. entry.0) entries)

rising-tail : (entry : ℕ × ℕ) (entries : List (ℕ × ℕ)) → AreKeysRising (entry ∷ entries) → AreKeysRising entries
rising-tail entry entries rising k kl = subst (λ i. slice_index keys k < slice_index (entry.0 ∷ keys) i) next (rising (suc k) (omega (arith, kl)))
  where
    keys : List ℕ
    keys = map (λ (e : ℕ × ℕ). e.0) entries

    next : suc k + 1 ≡ suc (k + 1)
    next = omega arith

pub rising-drop : (k : ℕ) (entries : List (ℕ × ℕ)) → AreKeysRising entries → AreKeysRising (drop k entries)
rising-drop zero entries rising = rising
rising-drop (suc k) [] rising = rising
rising-drop (suc k) (entry ∷ entries) rising = rising-drop k entries (rising-tail entry entries rising)

-- a column before the first has no entry
entry-before : (x : ℕ) (entry : ℕ × ℕ) (entries : List (ℕ × ℕ)) → x < entry.0 → AreKeysRising (entry ∷ entries) → entry_at (entry ∷ entries) x ≡ 0
entry-before x entry [] less rising = ap (λ b. cond b entry.1 0) (not_true (eqb entry.0 x) (λ h. absurd (omega (arith, less, eqb_true entry.0 x h))))
entry-before x entry (next ∷ entries) less rising =
    let step : entry.0 < next.0 = rising 0 (omega arith) in
    ap (λ b. cond b entry.1 (entry_at (next ∷ entries) x)) (not_true (eqb entry.0 x) (λ h. absurd (omega (arith, less, eqb_true entry.0 x h))))
    ∙ entry-before x next entries (omega (arith, less, step)) (rising-tail entry (next ∷ entries) rising)

pub entry-once : (entry : ℕ × ℕ) (entries : List (ℕ × ℕ)) → AreKeysRising (entry ∷ entries) → entry_at entries entry.0 ≡ 0
entry-once entry [] rising = refl
entry-once entry (next ∷ entries) rising = entry-before entry.0 next entries (rising 0 (omega arith)) (rising-tail entry (next ∷ entries) rising)

pub entry-here : (entry : ℕ × ℕ) (entries : List (ℕ × ℕ)) (j : ℕ) → entry.0 ≡ j → entry_at (entry ∷ entries) j ≡ entry.1
entry-here entry entries j same = ap (λ b. cond b entry.1 (entry_at entries j)) (eqb_from entry.0 j same)

pub entry-other : (entry : ℕ × ℕ) (entries : List (ℕ × ℕ)) (j : ℕ) → entry.0 ≢ j → entry_at (entry ∷ entries) j ≡ entry_at entries j
entry-other entry entries j other = ap (λ b. cond b entry.1 (entry_at entries j)) (not_true (eqb entry.0 j) (λ h. other (eqb_true entry.0 j h)))

drop-all : {X : Type 0} → (xs : List X) (k : ℕ) → length xs ≤ k → drop k xs ≡ []
drop-all [] zero low = refl
drop-all [] (suc k) low = refl
drop-all (x ∷ xs) zero low = absurd (omega arith)
drop-all (x ∷ xs) (suc k) low = drop-all xs k (omega arith)

pub entry-none : (entries : List (ℕ × ℕ)) (k j : ℕ) → length entries ≤ k → entry_at (drop k entries) j ≡ 0
entry-none entries k j low = ap (λ es. entry_at es j) (drop-all entries k low)

-- what is in a row of n numbers, with what is still to be added, is what is wanted
abbrev pub IsLeft : ℕ → ℕ → ℕ → List ℕ → List (ℕ × ℕ) → (ℕ → ℕ) → Type 0
IsLeft p n factor now entries want = (j : ℕ) → j < n → (slice_index now j + factor * entry_at entries j) % p ≡ want j % p

moved : (p x f e w : ℕ) → w ≡ (x + f * e) % p → (w + f * 0) % p ≡ (x + f * e) % p
moved p x f e w sum = ap (λ z. z % p) (plain w f) ∙ ap (λ z. z % p) sum ∙ mod-mod (x + f * e) p
  where
    plain : (a b : ℕ) → a + b * 0 ≡ a
    plain a b = grind arith

pub left-step : (p n f : ℕ) (now : List ℕ) (entry : ℕ × ℕ) (entries : List (ℕ × ℕ)) (want : ℕ → ℕ) (w : ℕ) →
    length now ≡ n → entry.0 < n → AreKeysRising (entry ∷ entries) →
    w ≡ (slice_index now entry.0 + f * entry.1) % p → IsLeft p n f now (entry ∷ entries) want →
    IsLeft p n f (slice_set now entry.0 w) entries want
left-step p n f now entry entries want w long low rising sum left j jl = go (nat_cases j entry.0)
  where
    goal : ℕ → Type 0
    goal i = (slice_index (slice_set now entry.0 w) i + f * entry_at entries i) % p ≡ want i % p

    go : (j ≡ entry.0) ⊎ (j ≢ entry.0) → goal j
    go (inl same) = subst goal (sym same)
        (ap (λ z. (z + f * entry_at entries entry.0) % p) (get_or-set_same now entry.0 w 0 (omega (arith, long, low)))
        ∙ ap (λ z. (w + f * z) % p) (entry-once entry entries rising)
        ∙ moved p (slice_index now entry.0) f entry.1 w sum
        ∙ ap (λ b. (slice_index now entry.0 + f * cond b entry.1 (entry_at entries entry.0)) % p) (sym (eqb_from entry.0 entry.0 refl))
        ∙ left entry.0 low)
    go (inr other) =
        ap (λ z. (z + f * entry_at entries j) % p) (get_or-set_other now entry.0 j w 0 other)
        ∙ ap (λ b. (slice_index now j + f * cond b entry.1 (entry_at entries j)) % p) (sym (not_true (eqb entry.0 j) (λ h. other (sym (eqb_true entry.0 j h)))))
        ∙ left j jl

pub left-end : (p n f : ℕ) (now : List ℕ) (entries : List (ℕ × ℕ)) (k : ℕ) (want : ℕ → ℕ) → length entries ≤ k →
    IsLeft p n f now (drop k entries) want → (j : ℕ) → j < n → slice_index now j % p ≡ want j % p
left-end p n f now entries k want low left j jl =
    ap (λ z. z % p) (plain (slice_index now j) f)
    ∙ subst (λ es. (slice_index now j + f * entry_at es j) % p ≡ want j % p) (drop-all entries k low) (left j jl)
  where
    plain : (a b : ℕ) → a ≡ a + b * 0
    plain a b = grind arith

-- a sum with one coefficient more
pub sum-entry : (m : ℕ) (entry : ℕ × ℕ) (entries : List (ℕ × ℕ)) (R : ℕ → ℕ) → entry.0 < m → AreKeysRising (entry ∷ entries) →
    sum_below m (λ t. entry_at (entry ∷ entries) t * R t) ≡ sum_below m (λ t. entry_at entries t * R t) + entry.1 * R entry.0
sum-entry m entry entries R low rising = joined _ _ _ _ _ _ first same second here gone
  where
    v : ℕ
    v = entry.0

    f : ℕ → ℕ
    f t = entry_at (entry ∷ entries) t * R t

    g : ℕ → ℕ
    g t = entry_at entries t * R t

    first : sum_on everything m f ≡ sum_on (without everything v) m f + f v
    first = sum_on-without everything m v f low refl

    second : sum_on everything m g ≡ sum_on (without everything v) m g + g v
    second = sum_on-without everything m v g low refl

    same : sum_on (without everything v) m f ≡ sum_on (without everything v) m g
    same = sum_on-ext (without everything v) m f g (λ j jl h.
        ap (λ b. cond b entry.1 (entry_at entries j) * R j) (not_true (eqb v j) (λ e. (without-member everything v j h).1 (sym (eqb_true v j e)))))

    here : f v ≡ entry.1 * R v
    here = ap (λ b. cond b entry.1 (entry_at entries v) * R v) (eqb_from v v refl)

    gone : g v ≡ 0
    gone = ap (λ x. x * R v) (entry-once entry entries rising) ∙ grind arith

    joined : (a b c d x y : ℕ) → a ≡ b + x → b ≡ c → d ≡ c + y → x ≡ entry.1 * R v → y ≡ 0 → a ≡ d + entry.1 * R v
    joined a b c d x y one two three four five = omega (arith, one, two, three, four, five)

-- what is in a row, with the rows of a matrix of m rows that are still to be added, is what is wanted
abbrev pub IsSumLeft : ℕ → ℕ → ℕ → List (List (ℕ × ℕ)) → List ℕ → List (ℕ × ℕ) → (ℕ → ℕ) → Type 0
IsSumLeft p m n rows now coefficients want =
    (j : ℕ) → j < n → (slice_index now j + sum_below m (λ t. entry_at coefficients t * matrix_of rows t j)) % p ≡ want j % p

pub sum_left-step : (p m n : ℕ) (rows : List (List (ℕ × ℕ))) (row : List (ℕ × ℕ)) (now new : List ℕ) (entry : ℕ × ℕ)
    (entries : List (ℕ × ℕ)) (want : ℕ → ℕ) → entry.0 < m → AreKeysRising (entry ∷ entries) →
    ((j : ℕ) → entry_at row j ≡ matrix_of rows entry.0 j) → IsAddedRow p n entry.1 row now new →
    IsSumLeft p m n rows now (entry ∷ entries) want → IsSumLeft p m n rows new entries want
sum_left-step p m n rows row now new entry entries want low rising is added left j jl =
    sym (mod-add-mod (slice_index new j) p rest)
    ∙ ap (λ z. (z + rest) % p) (added j jl ∙ ap (λ z. (slice_index now j + entry.1 * z) % p) (is j))
    ∙ mod-add-mod (slice_index now j + entry.1 * matrix_of rows entry.0 j) p rest
    ∙ ap (λ z. z % p) (ordered (slice_index now j) (entry.1 * matrix_of rows entry.0 j) rest)
    ∙ ap (λ z. (slice_index now j + z) % p) (sym (sum-entry m entry entries (λ t. matrix_of rows t j) low rising))
    ∙ left j jl
  where
    rest : ℕ
    rest = sum_below m (λ t. entry_at entries t * matrix_of rows t j)

    ordered : (a b c : ℕ) → a + b + c ≡ a + (c + b)
    ordered a b c = omega arith

sum-none : (m : ℕ) (R : ℕ → ℕ) → sum_below m (λ t. 0 * R t) ≡ 0
sum-none m R = sum_on-ext everything m (λ t. 0 * R t) (λ t. 0) (λ j jl h. omega arith) ∙ sum_on-none everything m

pub sum_left-end : (p m n : ℕ) (rows : List (List (ℕ × ℕ))) (now : List ℕ) (coefficients : List (ℕ × ℕ)) (k : ℕ)
    (want : ℕ → ℕ) → length coefficients ≤ k → IsSumLeft p m n rows now (drop k coefficients) want →
    (j : ℕ) → j < n → slice_index now j % p ≡ want j % p
sum_left-end p m n rows now coefficients k want low left j jl =
    ap (λ z. z % p) (plain (slice_index now j))
    ∙ ap (λ z. (slice_index now j + z) % p) (sym (sum-none m (λ t. matrix_of rows t j)))
    ∙ subst (λ es. (slice_index now j + sum_below m (λ t. entry_at es t * matrix_of rows t j)) % p ≡ want j % p) (drop-all coefficients k low) (left j jl)
  where
    plain : (a : ℕ) → a ≡ a + 0
    plain a = omega arith
