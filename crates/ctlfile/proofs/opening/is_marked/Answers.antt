use Rattle.std.proofs.Common.{◌≡◌, ℕ, Bool, true, false, ◌&&◌, List, [], ◌∷◌, take, drop, sym, ap, ◌∙◌, arith, length-drop}
use Rattle.std.proofs.lemmas.List.{take_all}
use Rattle.std.proofs.lemmas.Slice.Eq.{slice_eq-Decides}
use Rattle.std.proofs.lemmas.Bool.Decides.{same_from_decides, Decides-eqb}
use Rattle.model.specs.Positions.{same}
use Rattle.model.specs.File.{file_mark}
use Rattle.model.proofs.Lists.{decides_same}
use Rattle.ctlfile.specs.Trailers.{marked}
use Rattle.ctlfile.proofs.opening.is_marked.Goals as goal

pub returns-then-eq : goal.returns-then-eq
unfolding marked
returns-then-eq c =
    let end : List ℕ = c.args.end.now in
    let mark : true ≡ same (take 4 end) file_mark = sym c.if-eq.true ∙ same_from_decides c.eq.result (same (take 4 end) file_mark) (slice_eq-Decides Decides-eqb _ _ _ c.eq.ensures) (decides_same (take 4 end) file_mark) in
    let rest : take 2 (drop 18 end) ≡ drop 18 end = take_all 2 (drop 18 end) (omega (arith, length-drop 18 end, c.requires)) in
    let zeros : c.eq-then-eq.result ≡ same (take 2 (drop 18 end)) (0 ∷ 0 ∷ []) = same_from_decides c.eq-then-eq.result (same (take 2 (drop 18 end)) (0 ∷ 0 ∷ [])) (slice_eq-Decides Decides-eqb _ _ _ c.eq-then-eq.ensures) (decides_same (take 2 (drop 18 end)) (0 ∷ 0 ∷ [])) in
    zeros ∙ ap {B = Bool} (λ l. same l (0 ∷ 0 ∷ [])) rest ∙ ap {B = Bool} (λ b. b && same (drop 18 end) (0 ∷ 0 ∷ [])) mark

pub returns-else-eq : goal.returns-else-eq
unfolding marked
returns-else-eq c =
    let end : List ℕ = c.args.end.now in
    let mark : false ≡ same (take 4 end) file_mark = sym c.if-eq.false ∙ same_from_decides c.eq.result (same (take 4 end) file_mark) (slice_eq-Decides Decides-eqb _ _ _ c.eq.ensures) (decides_same (take 4 end) file_mark) in
    c.if-eq.false ∙ ap {B = Bool} (λ b. b && same (drop 18 end) (0 ∷ 0 ∷ [])) mark
