-- What the tests of positions say, one way at a time. Assumes nothing.
use Rattle.std.proofs.Common.{◌≡◌, ℕ, zero, suc, ◌+◌, ◌<◌, ◌≤◌, Bool, true, false, eqb, leb, List, [], ◌∷◌, length, get_or, ◌&&◌, sym, refl, ◌∙◌, subst, zero-le, arith}
use mathlib.Core.Bool.{false≢true}
use lib.Pointwise.{pointwise}
use Rattle.std.specs.List.{list_all}
use Rattle.std.proofs.lemmas.Bool.{leb-true, le-leb}
use Rattle.model.specs.Automaton.{Automaton}
use Rattle.model.specs.Lists.{every, In}
use Rattle.model.specs.Positions.{Position, step, same, fits, member, holds}
use Rattle.model.proofs.Lists.{decides_same}
use Rattle.model.proofs.Reaching.{decides_member, decides_holds}

pub same_bool : (a b : Bool) → (a ≡ true → b ≡ true) → (b ≡ true → a ≡ true) → a ≡ b
same_bool true b f g = sym (f refl)
same_bool false true f g = absurd (false≢true (g refl))
same_bool false false f g = refl

-- THE SAME POSITION

pub same_sound : (P Q : Position) → same P Q ≡ true → P ≡ Q
same_sound P Q = (decides_same P Q).0

pub same_refl : (P : Position) → same P P ≡ true
same_refl P = (decides_same P P).1 refl

pub pointwise_same : (P Q : Position) → pointwise eqb P Q ≡ same P Q
pointwise_same [] [] = refl
pointwise_same [] (y ∷ Q) = refl
pointwise_same (x ∷ P) [] = refl
pointwise_same (x ∷ P) (y ∷ Q) = go (eqb x y) (pointwise_same P Q)
  where
    go : (b : Bool) → pointwise eqb P Q ≡ same P Q → (b && pointwise eqb P Q) ≡ elim b as (λ v. Bool) [ true ↦ same P Q | false ↦ false ]
    go true e = e
    go false e = refl

-- NO TALLY PASSES C

pub fits_sound : (c : ℕ) (P : Position) → fits c P ≡ true → (q : ℕ) → get_or P q 0 ≤ c + 1
unfolding fits
fits_sound c [] h q = zero-le
fits_sound c (m ∷ P) h q = go (leb m (c + 1)) refl h q (fits_sound c P)
  where
    go : (b : Bool) → leb m (c + 1) ≡ b → elim b as (λ v. Bool) [ true ↦ every (λ m. leb m (c + 1)) P | false ↦ false ] ≡ true → (q : ℕ)
        → (every (λ m. leb m (c + 1)) P ≡ true → (q : ℕ) → get_or P q 0 ≤ c + 1) → get_or (m ∷ P) q 0 ≤ c + 1
    go true e k zero r = leb-true m (c + 1) e
    go true e k (suc q) r = r k q
    go false e k q r = absurd (false≢true k)

pub fits_complete : (c : ℕ) (P : Position) → ((q : ℕ) → q < length P → get_or P q 0 ≤ c + 1) → fits c P ≡ true
unfolding fits
fits_complete c [] h = refl
fits_complete c (m ∷ P) h =
    subst (λ b. elim b as (λ v. Bool) [ true ↦ every (λ m. leb m (c + 1)) P | false ↦ false ] ≡ true) (sym (le-leb m (c + 1) (h 0 (omega arith))))
    (fits_complete c P (λ q k. h (suc q) (omega arith)))

pub fits_listed : (c : ℕ) (P : Position) (b : Bool) → b ≡ list_all (λ m. leb m (c + 1)) P → b ≡ fits c P
unfolding fits
fits_listed c P b e = e ∙ go P
  where
    go : (Q : List ℕ) → list_all (λ m. leb m (c + 1)) Q ≡ every (λ m. leb m (c + 1)) Q
    go [] = refl
    go (m ∷ Q) = more (leb m (c + 1)) (go Q)
      where
        more : (b : Bool) → list_all (λ m. leb m (c + 1)) Q ≡ every (λ m. leb m (c + 1)) Q
            → (b && list_all (λ m. leb m (c + 1)) Q) ≡ elim b as (λ v. Bool) [ true ↦ every (λ m. leb m (c + 1)) Q | false ↦ false ]
        more true e = e
        more false e = refl

-- IN A LIST

pub member_sound : (L : List Position) (P : Position) → member L P ≡ true → In L P
member_sound L P = (decides_member L P).0

pub member_complete : (L : List Position) (P : Position) → In L P → member L P ≡ true
member_complete L P = (decides_member L P).1

-- STAYING IN A LIST UNDER A COMMAND

pub holds_sound : (A : Automaton) (L : List Position) (P : Position) (u : ℕ) → holds A L P u ≡ true → (x : ℕ) → x < A.situations → In L (step A u x P)
holds_sound A L P u = (decides_holds A L P u).0

pub holds_complete : (A : Automaton) (L : List Position) (P : Position) (u : ℕ) → ((x : ℕ) → x < A.situations → In L (step A u x P)) → holds A L P u ≡ true
holds_complete A L P u = (decides_holds A L P u).1
