-- Canonical parts: what the minimisers hold together, and its one listing (Murota, chapters 2 and 4).
use Rattle.std.specs.Prelude.{ℕ, ◌+◌, ◌<◌, ◌≤◌, ◌≡◌, ◌≢◌, ◌↔◌, Bool, true, false}
use Rattle.mixed_matrices.specs.LayeredMatrices.{LayeredMatrix}
use Rattle.mixed_matrices.specs.SetFunctions.{IsMinimiser}
use Rattle.mixed_matrices.specs.Forms.{Parts, IsForm}

-- column x is in block k
abbrev pub IsOfBlock : LayeredMatrix → Parts → ℕ → ℕ → Type 0
IsOfBlock L G k x = (x < L.columns) × (k < G.blocks) × (G.column x ≡ k + 1)

-- each minimiser that holds y holds x
abbrev pub IsHeldWith : ℕ → LayeredMatrix → ℕ → ℕ → Type 0
IsHeldWith p L y x = (X : ℕ → Bool) → IsMinimiser p L X → X y ≡ true → X x ≡ true

-- block k is another one than l and below it: each minimiser that holds l holds k
abbrev pub IsBlockBelow : ℕ → LayeredMatrix → Parts → ℕ → ℕ → Type 0
IsBlockBelow p L G k l = (k ≢ l) × ((x y : ℕ) → IsOfBlock L G k x → IsOfBlock L G l y → IsHeldWith p L y x)

-- x is the least column of block k
abbrev pub IsLeastColumn : LayeredMatrix → Parts → ℕ → ℕ → Type 0
IsLeastColumn L G k x = IsOfBlock L G k x × ((y : ℕ) → IsOfBlock L G k y → x ≤ y)

-- all blocks below l stand before place k
abbrev pub IsReadyAt : ℕ → LayeredMatrix → Parts → ℕ → ℕ → Type 0
IsReadyAt p L G k l = (h : ℕ) → h < G.blocks → IsBlockBelow p L G h l → h < k

pub record AreCanonical (p : ℕ) (L : LayeredMatrix) (G : Parts) : Type 0 where
  pub columns : (x : ℕ) → x < L.columns → G.column x ≤ G.blocks + 1
  pub held : (k : ℕ) → k < G.blocks → (x : ℕ) × IsOfBlock L G k x
  -- the first tail holds the columns that are in every minimiser, the last those in none
  pub first : (x : ℕ) → x < L.columns → (G.column x ≡ 0) ↔ ((X : ℕ → Bool) → IsMinimiser p L X → X x ≡ true)
  pub last : (x : ℕ) → x < L.columns → (G.column x ≡ G.blocks + 1) ↔ ((X : ℕ → Bool) → IsMinimiser p L X → X x ≡ false)
  -- two columns share a block where every minimiser holds both or neither
  pub block : (k l x y : ℕ) → IsOfBlock L G k x → IsOfBlock L G l y → (k ≡ l) ↔
      ((X : ℕ → Bool) → IsMinimiser p L X → X x ≡ X y)
  -- at each place stands, of the blocks all of whose lower ones have stood before, the one with the least column
  pub ready : (k : ℕ) → k < G.blocks → IsReadyAt p L G k k
  pub least : (k l x y : ℕ) → k < l → IsReadyAt p L G k l → IsLeastColumn L G k x → IsLeastColumn L G l y → x < y

-- block k is in the lower list of l: below it with no third block between
pub record IsLowerBlock (p : ℕ) (L : LayeredMatrix) (G : Parts) (k l : ℕ) : Type 0 where
  pub below : IsBlockBelow p L G k l
  pub none_between : (h : ℕ) → h < G.blocks → IsBlockBelow p L G k h → IsBlockBelow p L G h l → ⊥

-- X is the first tail and the columns of the blocks of K, which holds with each block all blocks below it
pub record IsIdealOf (L : LayeredMatrix) (G : Parts) (below : ℕ → ℕ → Bool) (K X : ℕ → Bool) : Type 0 where
  pub lower : (k l : ℕ) → k < G.blocks → l < G.blocks → below k l ≡ true → K l ≡ true → K k ≡ true
  pub first : (x : ℕ) → x < L.columns → G.column x ≡ 0 → X x ≡ true
  pub block : (k x : ℕ) → IsOfBlock L G k x → X x ≡ K k
  pub last : (x : ℕ) → x < L.columns → G.column x ≡ G.blocks + 1 → X x ≡ false

-- the parts are a form with this S, and canonical; below is the order of their blocks, and lower l k says that k is in
-- the lower list of l
pub record AreRightParts (p : ℕ) (L : LayeredMatrix) (S : ℕ → ℕ → ℕ) (G : Parts)
    (below lower : ℕ → ℕ → Bool) : Type 0 where
  pub form : IsForm p L S G
  pub canonical : AreCanonical p L G
  pub order : (k l : ℕ) → k < G.blocks → l < G.blocks → (below k l ≡ true) ↔ IsBlockBelow p L G k l
  pub lists : (k l : ℕ) → k < G.blocks → l < G.blocks → (lower l k ≡ true) ↔ IsLowerBlock p L G k l
