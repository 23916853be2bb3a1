-- Lists that are made alike. Assumes nothing.
use Rattle.std.proofs.Common.{◌≡◌, Bool, true, false, List, [], ◌∷◌, ◌++◌, map, refl, ap, ◌∙◌, inl, inr}
use Rattle.model.specs.Lists.{any, joined, In}

pub map-map : {X Y Z : Type 0} (f : X → Y) (g : Y → Z) (xs : List X) → map g (map f xs) ≡ map (λ x. g (f x)) xs
map-map f g [] = refl
map-map {Z} f g (x ∷ xs) = ap {B = List Z} (λ l. g (f x) ∷ l) (map-map f g xs)

pub map_like : {X Y : Type 0} (f g : X → Y) (xs : List X) → ((x : X) → In xs x → f x ≡ g x) → map f xs ≡ map g xs
map_like f g [] h = refl
map_like {Y} f g (x ∷ xs) h = ap {B = List Y} (λ v. v ∷ map f xs) (h x (inl refl)) ∙ ap {B = List Y} (λ l. g x ∷ l) (map_like f g xs (λ y i. h y (inr i)))

pub joined_like : {X Y : Type 0} (f g : X → List Y) (xs : List X) → ((x : X) → In xs x → f x ≡ g x) → joined f xs ≡ joined g xs
joined_like f g [] h = refl
joined_like {Y} f g (x ∷ xs) h = ap {B = List Y} (λ v. v ++ joined f xs) (h x (inl refl)) ∙ ap {B = List Y} (λ l. g x ++ l) (joined_like f g xs (λ y i. h y (inr i)))

pub any_like : {X : Type 0} (f g : X → Bool) (xs : List X) → ((x : X) → In xs x → f x ≡ g x) → any f xs ≡ any g xs
any_like f g [] h = refl
any_like f g (x ∷ xs) h =
    ap {B = Bool} (λ b. elim b as (λ v. Bool) [ true ↦ true | false ↦ any f xs ]) (h x (inl refl))
    ∙ ap {B = Bool} (λ t. elim (g x) as (λ v. Bool) [ true ↦ true | false ↦ t ]) (any_like f g xs (λ y i. h y (inr i)))
