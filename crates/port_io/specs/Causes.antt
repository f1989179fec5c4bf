-- Why a call may fail: a count of faults that code over a source or a sink cannot raise by itself.
use Rattle.std.specs.Prelude.{◌≡◌, ◌⊎◌, ℕ, ◌+◌, ◌-◌, ◌^◌, ◌≤◌, Bool, true, min, OnOk, OnErr, Result}

-- what a count of 64 bits shows: it stays at its last value
abbrev pub shown : ℕ → ℕ
shown count = min count (2 ^ 64 - 1)

-- a count after one call more
abbrev pub one_more : ℕ → ℕ
one_more count = shown (count + 1)

-- there was one call more, or none
abbrev pub IsAtMostOneMore : ℕ → ℕ → Type 0
IsAtMostOneMore before now = (now ≡ before) ⊎ (now ≡ one_more before)

-- a count rose, or stands at its last value
abbrev pub Rose : ℕ → ℕ → Type 0
Rose before now = one_more before ≤ now

-- each fault is told: the count never falls, is as before where the call is fine, and is one more where it failed
pub record HasCause {T E : Type 0} (before now : ℕ) (result : Result T E) : Type 0 where
  pub later : before ≤ now
  pub fine : OnOk result (now ≡ before)
  pub failed : OnErr result (now ≡ one_more before)

-- one call failed, by the counts of faults before and after, and it was the last one, by whether the last one failed
pub record FailedLast (before now : ℕ) (failed : Bool) : Type 0 where
  pub once : now ≡ one_more before
  pub last : failed ≡ true
