-- The text of values with a space before each, one value more.
use Rattle.std.proofs.Common.{◌≡◌, ℕ, ◌+◌, ◌<◌, List, [], ◌∷◌, ◌++◌, length, get_or, take, Option, Some, None, IfSome, IsOk, Result, codes, refl, sym, ap, ◌∙◌, append_assoc, append-nil}
use Rattle.std.proofs.lemmas.List.{take_more}
use Rattle.std.proofs.lemmas.Grind.{put_two}
use Rattle.std.specs.Fmt.{◌++?◌, DisplaysOnOk, HasWritten}
use Rattle.std.specs.declared.fmt.Formatter.{Formatter}
use Rattle.std.specs.declared.fmt.Error.{Error}
use Rattle.ragtimuwen.specs.Printed.{spaced}

grouped : (a b c : Option (List ℕ)) → (a ++? b) ++? c ≡ a ++? (b ++? c)
grouped None b c = refl
grouped (Some a) None c = refl
grouped (Some a) (Some b) None = refl
grouped (Some a) (Some b) (Some c) = ap Some (append_assoc a b c)

ended : (a : Option (List ℕ)) → a ++? Some [] ≡ a
ended None = refl
ended (Some a) = ap Some (append-nil a)

begun : (a : Option (List ℕ)) → Some [] ++? a ≡ a
begun None = refl
begun (Some a) = refl

pushed : {X : Type 0} (text : X → Option (List ℕ)) (xs : List X) (x : X) → spaced text (xs ++ (x ∷ [])) ≡ spaced text xs ++? (Some (codes " ") ++? text x)
pushed text [] x = ended (Some (codes " ") ++? text x) ∙ sym (begun (Some (codes " ") ++? text x))
pushed text (y ∷ xs) x =
    ap (λ t. (Some (codes " ") ++? text y) ++? t) (pushed text xs x)
    ∙ sym (grouped (Some (codes " ") ++? text y) (spaced text xs) (Some (codes " ") ++? text x))

pub one_more : {X : Type 0} (text : X → Option (List ℕ)) (xs : List X) (i : ℕ) (x : X) → i < length xs → x ≡ get_or xs i x
    → spaced text (take (i + 1) xs) ≡ spaced text (take i xs) ++? (Some (codes " ") ++? text x)
one_more text xs i x l e =
    ap (spaced text) (take_more xs i x l) ∙ pushed text (take i xs) (get_or xs i x)
    ∙ ap (λ v. spaced text (take i xs) ++? (Some (codes " ") ++? text v)) (sym e)

-- two texts are written one behind the other
pub joined : {W : Type 0} (took : W → List ℕ → W → Type 0) (f g h : Formatter W) (a b : Option (List ℕ)) (r : Result (Unit {0}) Error)
    → IfSome a (λ bs. HasWritten took f bs g) → DisplaysOnOk took g r b h → IsOk r → IfSome (a ++? b) (λ bs. HasWritten took f bs h)
joined took f g h None b r s t ok = tt
joined took f g h (Some a) None r s t ok = tt
joined took f g h (Some a) (Some b) r s t ok = put_two took f g h a b (a ++ b) s (t s.plain ok) refl
