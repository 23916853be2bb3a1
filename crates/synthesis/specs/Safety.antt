-- The largest safe set in a table of links.
use Rattle.std.specs.Prelude.{◌≡◌, ℕ, ◌+◌, ◌*◌, ◌<◌, Bool, true, false, cond, List, [], ◌∷◌, length, Some, None, Option, slice_index_or}
use Rattle.std.specs.List.{find, list_all, range_with_len}

-- where the table leads from a place, under u in x, if it does
abbrev pub link : List (List (Option ℕ)) → ℕ → ℕ → ℕ → Option ℕ
link links h u x = slice_index_or (slice_index_or links h []) (u * 8 + x) None

-- the place is flagged
abbrev pub flag : List Bool → ℕ → Bool
flag flags h = slice_index_or flags h false

-- how many are flagged
abbrev pub trues : List Bool → ℕ
trues [] = 0
trues (b ∷ bs) = cond b 1 0 + trues bs

-- a link leads into the set t
abbrev pub into : (ℕ → Bool) → Option ℕ → Bool
into t None = false
into t (Some l) = t l

-- under u, every situation leads into the set t
abbrev pub Holding : ℕ → List (List (Option ℕ)) → (ℕ → Bool) → ℕ → ℕ → Type 0
Holding S links t h u = (x : ℕ) → x < S → into t (link links h u x) ≡ true

-- some command does so
abbrev pub Keeping : ℕ → ℕ → List (List (Option ℕ)) → (ℕ → Bool) → ℕ → Type 0
Keeping C S links t h = (u : ℕ) × (u < C) × Holding S links t h u

-- the set t is a safe set of the first n places
abbrev pub Closed : ℕ → ℕ → ℕ → List (List (Option ℕ)) → (ℕ → Bool) → Type 0
Closed C S n links t = (h : ℕ) → t h ≡ true → (h < n) × Keeping C S links t h

-- every safe set lies within the flags
abbrev pub Widest : ℕ → ℕ → List (List (Option ℕ)) → List Bool → Type 0
Widest C S links flags = (t : ℕ → Bool) → Closed C S (length flags) links t → (h : ℕ) → t h ≡ true → flag flags h ≡ true

-- the flags are the largest safe set
pub record Safest (C S : ℕ) (links : List (List (Option ℕ))) (flags : List Bool) : Type 0 where
  pub closed : Closed C S (length flags) links (flag flags)
  pub widest : Widest C S links flags

-- the same as a test: under u, every situation leads to a flagged place
abbrev pub stays_under : ℕ → List (List (Option ℕ)) → List Bool → ℕ → ℕ → Bool
stays_under S links flags h u = list_all (λ x. into (flag flags) (link links h u x)) (range_with_len 0 S)

-- the lowest command under which every situation leads to a flagged place
unfoldable pub lowest_kept : ℕ → ℕ → List (List (Option ℕ)) → List Bool → ℕ → Option ℕ
lowest_kept C S links flags h = find (stays_under S links flags h) (range_with_len 0 C)
