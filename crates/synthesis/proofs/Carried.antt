-- A search among nodes of one kind, carried over to another kind. Assumes nothing.
use Rattle.std.proofs.Common.{◌≡◌, ℕ, zero, suc, Bool, true, false, leb, List, [], ◌∷◌, ◌++◌, map, length, sym, refl, ap, ◌∙◌, arith}
use mathlib.Core.Option.{Option, none, some}
use Rattle.std.specs.List.{AllByRecursion as All}
use Rattle.std.proofs.lemmas.List.{map-append, length-map}
use Rattle.std.proofs.ByRecursion.{All-append}
use Rattle.model.specs.Lists.{any}
use Rattle.model.specs.Search.{fresh, explore, reached_from}

abbrev pub carried : {X Y : Type 0} → (X → Y) → Option (List X) → Option (List Y)
carried f none = none
carried f (some xs) = some (map f xs)

-- of the good nodes, f keeps the test and the neighbours
module _ {X Y : Type 0} (same : X → X → Bool) (next : X → List X) (alike : Y → Y → Bool) (after : Y → List Y) (f : X → Y) (Good : X → Type 0)
    (tests : (a b : X) → Good a → Good b → alike (f a) (f b) ≡ same a b)
    (leads : (a : X) → Good a → after (f a) ≡ map f (next a))
    (stays : (a : X) → Good a → All Good (next a)) where
  pub any_carried : (y : X) (m : List X) → Good y → All Good m → any (alike (f y)) (map f m) ≡ any (same y) m
  any_carried y [] g h = refl
  any_carried y (x ∷ m) g h = go (alike (f y) (f x)) (same y x) (tests y x g h.0) (any_carried y m g h.1)
    where
      go : (b c : Bool) → b ≡ c → any (alike (f y)) (map f m) ≡ any (same y) m
          → elim b as (λ v. Bool) [ true ↦ true | false ↦ any (alike (f y)) (map f m) ] ≡ elim c as (λ v. Bool) [ true ↦ true | false ↦ any (same y) m ]
      go b c e r = ap {B = Bool} (λ t. elim t as (λ v. Bool) [ true ↦ true | false ↦ any (alike (f y)) (map f m) ]) e ∙ ap {B = Bool} (λ t. elim c as (λ v. Bool) [ true ↦ true | false ↦ t ]) r

  fresh_carried : (m ys : List X) → All Good m → All Good ys → fresh alike (map f m) (map f ys) ≡ map f (fresh same m ys)
  fresh_carried m [] g h = refl
  fresh_carried m (y ∷ ys) g h =
      go (any (alike (f y)) (map f m)) (any (same y) m) (any_carried y m h.0 g) (fresh_carried m ys g h.1) (fresh_carried (y ∷ m) ys (h.0, g) h.1)
    where
      go : (b c : Bool) → b ≡ c → fresh alike (map f m) (map f ys) ≡ map f (fresh same m ys)
          → fresh alike (f y ∷ map f m) (map f ys) ≡ map f (fresh same (y ∷ m) ys)
          → elim b as (λ v. List Y) [ true ↦ fresh alike (map f m) (map f ys) | false ↦ f y ∷ fresh alike (f y ∷ map f m) (map f ys) ]
          ≡ map f (elim c as (λ v. List X) [ true ↦ fresh same m ys | false ↦ y ∷ fresh same (y ∷ m) ys ])
      go b true e r t = ap {B = List Y} (λ t. elim t as (λ v. List Y) [ true ↦ fresh alike (map f m) (map f ys) | false ↦ f y ∷ fresh alike (f y ∷ map f m) (map f ys) ]) e ∙ r
      go b false e r t = ap {B = List Y} (λ t. elim t as (λ v. List Y) [ true ↦ fresh alike (map f m) (map f ys) | false ↦ f y ∷ fresh alike (f y ∷ map f m) (map f ys) ]) e ∙ ap {B = List Y} (λ l. f y ∷ l) t

  fresh_good : (m ys : List X) → All Good ys → All Good (fresh same m ys)
  fresh_good m [] h = tt
  fresh_good m (y ∷ ys) h = go (any (same y) m) (fresh_good m ys h.1) (fresh_good (y ∷ m) ys h.1)
    where
      go : (b : Bool) → All Good (fresh same m ys) → All Good (fresh same (y ∷ m) ys)
          → All Good (elim b as (λ v. List X) [ true ↦ fresh same m ys | false ↦ y ∷ fresh same (y ∷ m) ys ])
      go true r t = r
      go false r t = (h.0, t)

  new_carried : (m : List X) (x : X) → All Good m → Good x → map f m ++ fresh alike (map f m) (after (f x)) ≡ map f (m ++ fresh same m (next x))
  new_carried m x g h =
      ap {B = List Y} (λ l. map f m ++ fresh alike (map f m) l) (leads x h) ∙ ap {B = List Y} (λ l. map f m ++ l) (fresh_carried m (next x) g (stays x h)) ∙ sym (map-append f m (fresh same m (next x)))

  explore_carried : (room turns : ℕ) (m w : List X) → All Good m → All Good w
      → explore alike after room turns (map f m) (map f w) ≡ carried f (explore same next room turns m w)
  explore_carried room zero m w g h = refl
  explore_carried room (suc turns) m [] g h = refl
  explore_carried room (suc turns) m (x ∷ w) g h =
      let new = fresh same m (next x) in
      let fnew = fresh alike (map f m) (after (f x)) in
      let e = new_carried m x g h.0 in
      let k : fnew ≡ map f new = ap {B = List Y} (λ l. fresh alike (map f m) l) (leads x h.0) ∙ fresh_carried m (next x) g (stays x h.0) in
      let en : length (map f (m ++ new)) ≡ length (m ++ new) = length-map (m ++ new) f in
      let good = fresh_good m (next x) (stays x h.0) in
      ap {B = Option (List Y)} (λ l. elim (leb (length l) room) as (λ v. Option (List Y)) [ true ↦ explore alike after room turns l (map f w ++ fnew) | false ↦ none ]) e
      ∙ ap {B = Option (List Y)} (λ l. elim (leb (length (map f (m ++ new))) room) as (λ v. Option (List Y)) [ true ↦ explore alike after room turns (map f (m ++ new)) l | false ↦ none ])
      (ap {B = List Y} (λ l. map f w ++ l) k ∙ sym (map-append f w new))
      ∙ ap {B = Option (List Y)} (λ n. elim (leb n room) as (λ v. Option (List Y)) [ true ↦ explore alike after room turns (map f (m ++ new)) (map f (w ++ new)) | false ↦ none ]) en
      ∙ go (leb (length (m ++ new)) room) (explore_carried room turns (m ++ new) (w ++ new) (All-append Good m new g good) (All-append Good w new h.1 good))
    where
      go : (b : Bool)
          → explore alike after room turns (map f (m ++ fresh same m (next x))) (map f (w ++ fresh same m (next x))) ≡ carried f (explore same next room turns (m ++ fresh same m (next x)) (w ++ fresh same m (next x)))
          → elim b as (λ v. Option (List Y)) [ true ↦ explore alike after room turns (map f (m ++ fresh same m (next x))) (map f (w ++ fresh same m (next x))) | false ↦ none ]
          ≡ carried f (elim b as (λ v. Option (List X)) [ true ↦ explore same next room turns (m ++ fresh same m (next x)) (w ++ fresh same m (next x)) | false ↦ none ])
      go true r = r
      go false r = refl

  pub search_carried : (room : ℕ) (x : X) → Good x → reached_from alike after room (f x) ≡ carried f (reached_from same next room x)
  unfolding reached_from
  search_carried room x g = go (leb 1 room)
    where
      go : (b : Bool)
          → elim b as (λ v. Option (List Y)) [ true ↦ explore alike after room room (f x ∷ []) (f x ∷ []) | false ↦ none ]
          ≡ carried f (elim b as (λ v. Option (List X)) [ true ↦ explore same next room room (x ∷ []) (x ∷ []) | false ↦ none ])
      go true = explore_carried room room (x ∷ []) (x ∷ []) (g, tt) (g, tt)
      go false = refl

  -- what is found is good
  abbrev pub GoodFound : Option (List X) → Type 0
  GoodFound none = Unit {0}
  GoodFound (some xs) = All Good xs

  explore_good : (room turns : ℕ) (m w : List X) → All Good m → All Good w → GoodFound (explore same next room turns m w)
  explore_good room zero m w g h = g
  explore_good room (suc turns) m [] g h = g
  explore_good room (suc turns) m (x ∷ w) g h =
      let new = fresh same m (next x) in
      let good = fresh_good m (next x) (stays x h.0) in
      go (leb (length (m ++ new)) room) (explore_good room turns (m ++ new) (w ++ new) (All-append Good m new g good) (All-append Good w new h.1 good))
    where
      go : (b : Bool) → GoodFound (explore same next room turns (m ++ fresh same m (next x)) (w ++ fresh same m (next x)))
          → GoodFound (elim b as (λ v. Option (List X)) [ true ↦ explore same next room turns (m ++ fresh same m (next x)) (w ++ fresh same m (next x)) | false ↦ none ])
      go true r = r
      go false r = tt

  pub search_good : (room : ℕ) (x : X) → Good x → GoodFound (reached_from same next room x)
  unfolding reached_from
  search_good room x g = go (leb 1 room)
    where
      go : (b : Bool) → GoodFound (elim b as (λ v. Option (List X)) [ true ↦ explore same next room room (x ∷ []) (x ∷ []) | false ↦ none ])
      go true = explore_good room room (x ∷ []) (x ∷ []) (g, tt) (g, tt)
      go false = tt

  -- read off what was found among the images
  pub found_back : (room : ℕ) (x : X) → Good x → (ys : List Y) → reached_from alike after room (f x) ≡ some ys
      → (xs : List X) × (reached_from same next room x ≡ some xs) × (ys ≡ map f xs) × All Good xs
  found_back room x g ys e = go (reached_from same next room x) refl (sym e ∙ search_carried room x g) (search_good room x g)
    where
      go : (o : Option (List X)) → reached_from same next room x ≡ o → some ys ≡ carried f o → GoodFound o → (xs : List X) × (reached_from same next room x ≡ some xs) × (ys ≡ map f xs) × All Good xs
      go none p q r = let z : ◌≡◌ {A = ℕ} 0 1 = cc in absurd (omega arith)
      go (some xs) p q r = (xs, p, cc, r)

  pub none_back : (room : ℕ) (x : X) → Good x → reached_from alike after room (f x) ≡ none → reached_from same next room x ≡ none
  none_back room x g e = go (reached_from same next room x) refl (sym e ∙ search_carried room x g)
    where
      go : (o : Option (List X)) → reached_from same next room x ≡ o → none ≡ carried f o → reached_from same next room x ≡ none
      go none p q = p
      go (some xs) p q = let z : ◌≡◌ {A = ℕ} 0 1 = cc in absurd (omega arith)
