-- What a rule's lines mean, and its reached states.
use Rattle.std.proofs.Common.{◌≡◌, ℕ, Bool, true, ◌&&◌, eqb, ◌↔◌, List, [], ◌∷◌, sym, refl, ◌∙◌, subst, inl, inr}
use Rattle.std.proofs.lemmas.Bool.{eqb-true, eq-eqb, ltb-true, lt-ltb, and_parts, and_from}
use Rattle.model.specs.Lists.{any, In}
use Rattle.model.specs.Text.{Choice, one, each, among, chosen, has_arrow}
use Rattle.model.specs.ReadingLaws.{Chosen, MeaningExact, ReachedExact}
use Rattle.model.proofs.Reading.Basics.{by_test, true_false}
use Rattle.model.proofs.Reading.Reached.{reached_list, reached_some, all_reached_exact}

any_found : {X : Type 0} (f : X → Bool) (xs : List X) → any f xs ≡ true → (x : X) × In xs x × (f x ≡ true)
any_found f [] e = true_false e refl
any_found f (x ∷ xs) e =
    by_test (f x) (λ t. (x, inl refl, t)) (λ t. let d : any f (x ∷ xs) ≡ any f xs = cc in let r = any_found f xs (sym d ∙ e) in (r.0, inr r.1, r.2))

found_any : {X : Type 0} (f : X → Bool) (xs : List X) (x : X) → In xs x → f x ≡ true → any f xs ≡ true
found_any f [] x h e = absurd h
found_any f (y ∷ ys) x (inl is) e = let t : f y ≡ true = subst (λ z. f z ≡ true) is e in cc
found_any f (y ∷ ys) x (inr h) e = let ih = found_any f ys x h e in by_test (f y) (λ t. cc) (λ t. cc)

among_exact : (qs : List ℕ) (q : ℕ) → (among qs q ≡ true) ↔ In qs q
among_exact qs q =
    ((λ e. let r = any_found (eqb q) qs e in subst (λ z. In qs z) (sym (eqb-true q r.0 r.2)) r.1), (λ h. found_any (eqb q) qs q h (eq-eqb q q refl)))

chosen_exact : (n : ℕ) (u : Choice) (i : ℕ) → (chosen n u i ≡ true) ↔ Chosen n u i
chosen_exact n (one d) i = (eqb-true d i, eq-eqb d i)
chosen_exact n each i = (ltb-true i n, lt-ltb i n)

pub meaning_exact : MeaningExact
meaning_exact S C r = (
  refl,
  refl,
  refl,
  (λ q. (eqb-true q r.start, eq-eqb q r.start)),
  among_exact r.rejecting,
  λ q u x p. (
    (λ e.
        let w = any_found (has_arrow S C q u x p) r.arrows e in
        let a = w.0 in
        let b = and_parts (eqb a.from q) (chosen C a.command u && (chosen S a.situation x && among a.to p)) w.2 in
        let c = and_parts (chosen C a.command u) (chosen S a.situation x && among a.to p) b.1 in
        let d = and_parts (chosen S a.situation x) (among a.to p) c.1 in
        (a, w.1, eqb-true a.from q b.0, (chosen_exact C a.command u).0 c.0, (chosen_exact S a.situation x).0 d.0, (among_exact a.to p).0 d.1)),
    (λ h.
        let a = h.0 in
        found_any (has_arrow S C q u x p) r.arrows a h.1
        (and_from (eqb a.from q) (chosen C a.command u && (chosen S a.situation x && among a.to p)) (eq-eqb a.from q h.2)
        (and_from (chosen C a.command u) (chosen S a.situation x && among a.to p) ((chosen_exact C a.command u).1 h.3)
        (and_from (chosen S a.situation x) (among a.to p) ((chosen_exact S a.situation x).1 h.4) ((among_exact a.to p).1 h.5))))),
  ),
)

pub reached_exact : ReachedExact
reached_exact S C r h =
    let s = reached_some S C r h in
    let l = reached_list S C r h s.0 s.1 in
    ((s.0, s.1, l.0, l.1), all_reached_exact S C r h)
