-- Rules side by side, one after the other. Assumes nothing.
use Rattle.std.proofs.Common.{◌≡◌, ℕ, suc, ◌+◌, ◌-◌, ◌<◌, ◌≤◌, min, Bool, true, false, cond, not, ◌&&◌, ltb, List, [], ◌∷◌, ◌++◌, map, length, get_or, take, drop, sym, refl, ap, ◌∙◌, subst, inl, inr, arith}
use Rattle.std.specs.List.{AllByRecursion as All}
use Rattle.std.proofs.lemmas.Bool.{le-ltb, cases_lt}
use Rattle.std.proofs.lemmas.List.{map_more, take-map, take-append-drop, get_or-map, get_or_default, get_or-take, length-map, length-take}
use Rattle.std.proofs.ByRecursion.{All-get_or}
use Rattle.model.specs.Automaton.{Automaton}
use Rattle.model.specs.Rules.{beside, together}
use Rattle.synthesis.specs.declared.arrows.Arrows.{Arrows}
use Rattle.synthesis.specs.Tables.{automaton, Agrees, Alike, Joins}

pub agrees_trans : (A B C : Automaton) → Agrees A B → Agrees B C → Agrees A C
agrees_trans A B C g h =
    record {
      situations = g.situations ∙ h.situations;
      commands = g.commands ∙ h.commands;
      states = g.states ∙ h.states;
      start = λ q l. g.start q (let e = h.states in omega (arith, e)) ∙ h.start q l;
      reject = λ q l. g.reject q (let e = h.states in omega (arith, e)) ∙ h.reject q l;
      follows = λ q u x p hq hu hx hp.
          let a = h.states in
          let b = h.commands in
          let c = h.situations in
          g.follows q u x p (omega (arith, a)) (omega (arith, b)) (omega (arith, c)) (omega (arith, a)) ∙ h.follows q u x p hq hu hx hp;
    }

-- one rule more
pub beside_agrees : (A B M : Automaton) → Agrees A B → Agrees (beside A M) (beside B M)
beside_agrees A B M g =
    let n = B.states in
    record {
      situations = ap {B = ℕ} (λ v. min v M.situations) g.situations;
      commands = ap {B = ℕ} (λ v. min v M.commands) g.commands;
      states = ap {B = ℕ} (λ v. v + M.states) g.states;
      start = λ q l.
          ap {B = Bool} (λ k. cond (ltb q k) (A.start q) (M.start (q - k))) g.states
          ∙ elim (cases_lt q n) [
            | inl h ↦ ap {B = Bool} (λ v. cond (ltb q n) v (M.start (q - n))) (g.start q h)
            | inr h ↦ ap {B = Bool} (λ b. cond b (A.start q) (M.start (q - n))) (le-ltb q n h) ∙ sym (ap {B = Bool} (λ b. cond b (B.start q) (M.start (q - n))) (le-ltb q n h))
          ];
      reject = λ q l.
          ap {B = Bool} (λ k. cond (ltb q k) (A.reject q) (M.reject (q - k))) g.states
          ∙ elim (cases_lt q n) [
            | inl h ↦ ap {B = Bool} (λ v. cond (ltb q n) v (M.reject (q - n))) (g.reject q h)
            | inr h ↦ ap {B = Bool} (λ b. cond b (A.reject q) (M.reject (q - n))) (le-ltb q n h) ∙ sym (ap {B = Bool} (λ b. cond b (B.reject q) (M.reject (q - n))) (le-ltb q n h))
          ];
      follows = λ q u x p hq hu hx hp.
          ap {B = Bool} (λ k. elim (ltb q k) as (λ v. Bool) [ true ↦ ltb p k && A.follows q u x p | false ↦ not (ltb p k) && M.follows (q - k) u x (p - k) ]) g.states
          ∙ elim (cases_lt q n) [
            | inl h ↦
                (ap {B = Bool} (λ v. elim (ltb q n) as (λ v. Bool) [ true ↦ v | false ↦ not (ltb p n) && M.follows (q - n) u x (p - n) ])
                (elim (cases_lt p n) [
                  | inl k ↦ ap {B = Bool} (λ v. ltb p n && v) (g.follows q u x p h (omega arith) (omega arith) k)
                  | inr k ↦ ap {B = Bool} (λ b. b && A.follows q u x p) (le-ltb p n k) ∙ sym (ap {B = Bool} (λ b. b && B.follows q u x p) (le-ltb p n k))
                ]))
            | inr h ↦
                (ap {B = Bool} (λ b. elim b as (λ v. Bool) [ true ↦ ltb p n && A.follows q u x p | false ↦ not (ltb p n) && M.follows (q - n) u x (p - n) ]) (le-ltb q n h)
                ∙ sym (ap {B = Bool} (λ b. elim b as (λ v. Bool) [ true ↦ ltb p n && B.follows q u x p | false ↦ not (ltb p n) && M.follows (q - n) u x (p - n) ]) (le-ltb q n h)))
          ];
    }

together_push : (H : Automaton) (Ms : List Automaton) (M : Automaton) → together H (Ms ++ (M ∷ [])) ≡ beside (together H Ms) M
together_push H [] M = refl
together_push H (N ∷ Ms) M = together_push (beside H N) Ms M

pub grows_from : (H : Automaton) (Ms : List Automaton) → H.states ≤ (together H Ms).states
grows_from H [] = omega arith
grows_from H (N ∷ Ms) = let r = grows_from (beside H N) Ms in omega (arith, r)

grows : (H : Automaton) (Ms Ns : List Automaton) → (together H Ms).states ≤ (together H (Ms ++ Ns)).states
grows H [] Ns = grows_from H Ns
grows H (N ∷ Ms) Ns = grows (beside H N) Ms Ns

-- the numbers stay
together_numbers : (H : Automaton) (S C : ℕ) (Ms : List Automaton) → H.situations ≡ S → H.commands ≡ C → ((i : ℕ) → i < length Ms → ((get_or Ms i H).situations ≡ S) × ((get_or Ms i H).commands ≡ C))
    → ((together H Ms).situations ≡ S) × ((together H Ms).commands ≡ C)
together_numbers H S C [] es ec h = (es, ec)
together_numbers H S C (N ∷ Ms) es ec h =
    let a = h 0 (omega arith) in
    let b = a.0 in
    let d = a.1 in
    together_numbers (beside H N) S C Ms (omega (arith, b)) (omega (arith, d)) (λ i l. let k = h (suc i) (omega arith) in (ap (λ (M : Automaton). M.situations) (get_or_default Ms i (beside H N) H l) ∙ k.0, ap (λ (M : Automaton). M.commands) (get_or_default Ms i (beside H N) H l) ∙ k.1))

pub numbers_stay : (H : Automaton) (Ms : List Automaton) → All (Alike H) Ms → ((together H Ms).situations ≡ H.situations) × ((together H Ms).commands ≡ H.commands)
numbers_stay H Ms alike =
    together_numbers H H.situations H.commands Ms refl refl (λ i l. let a = All-get_or (Alike H) Ms i H l alike in (a.situations, a.commands))

module _ {X : Type 0} (H : Automaton) (meaning : X → Automaton) (xs : List X) (alike : All (Alike H) (map meaning xs)) (room : (together H (map meaning xs)).states ≤ 16) (i : ℕ) (x : X)
    (lt : i < length xs) (ex : x ≡ get_or xs i x) where
  abbrev front : List Automaton
  front = map meaning (take i xs)

  front_more : map meaning (take (i + 1) xs) ≡ front ++ (meaning x ∷ [])
  front_more = map_more meaning xs i x lt ∙ ap {B = List Automaton} (λ v. front ++ (meaning v ∷ [])) (sym ex)

  like : (k : ℕ) → k < length xs → Alike H (get_or (map meaning xs) k H)
  like k l = All-get_or (Alike H) (map meaning xs) k H (omega (arith, length-map xs meaning)) alike

  numbers : ((together H front).situations ≡ H.situations) × ((together H front).commands ≡ H.commands)
  numbers =
      together_numbers H H.situations H.commands front refl refl
      (λ k l.
      let lk : k < i = omega (arith, l, length-map (take i xs) meaning, length-take i xs) in
      let a = like k (omega (arith, lt, lk)) in
      let e : get_or front k H ≡ get_or (map meaning xs) k H = ap {B = Automaton} (λ v. get_or v k H) (sym (take-map meaning i xs)) ∙ get_or-take i (map meaning xs) k H lk in
      (ap (λ (M : Automaton). M.situations) e ∙ a.situations, ap (λ (M : Automaton). M.commands) e ∙ a.commands))

  fits_in : (together H front).states + (meaning x).states ≤ 16
  fits_in =
      let all = map meaning xs in
      let e : all ≡ (front ++ (meaning x ∷ [])) ++ drop (i + 1) all = sym (take-append-drop (i + 1) all) ∙ ap {B = List Automaton} (λ v. v ++ drop (i + 1) all) (take-map meaning (i + 1) xs ∙ front_more) in
      let g = grows H (front ++ (meaning x ∷ [])) (drop (i + 1) all) in
      let s : (together H (front ++ (meaning x ∷ []))).states ≡ (together H front).states + (meaning x).states = ap (λ (M : Automaton). M.states) (together_push H front (meaning x)) in
      let r = ap {B = ℕ} (λ v. (together H v).states) e in
      omega (arith, g, s, r, room)

  pub joins_next : (a : Arrows) → Agrees (automaton a) (together H front) → Joins a (meaning x)
  joins_next a g =
      let m = like i lt in
      let e : get_or (map meaning xs) i H ≡ meaning x = get_or-map meaning xs i x H lt ∙ ap meaning (sym ex) in
      record {
        situations = ap (λ (M : Automaton). M.situations) (sym e) ∙ m.situations ∙ sym (g.situations ∙ numbers.0);
        commands = ap (λ (M : Automaton). M.commands) (sym e) ∙ m.commands ∙ sym (g.commands ∙ numbers.1);
        room = let s = g.states in omega (arith, s, fits_in);
      }

  pub agrees_next : (a r : Arrows) → Agrees (automaton a) (together H front) → Agrees (automaton r) (beside (automaton a) (meaning x)) → Agrees (automaton r) (together H (map meaning (take (i + 1) xs)))
  agrees_next a r g h =
      subst (λ B. Agrees (automaton r) B) (sym (ap {B = Automaton} (together H) front_more ∙ together_push H front (meaning x)))
      (agrees_trans (automaton r) (beside (automaton a) (meaning x)) (beside (together H front) (meaning x)) h (beside_agrees (automaton a) (together H front) (meaning x) g))
