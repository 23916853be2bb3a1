-- Requests one after another: what is done, and what is still to be done. Assumes nothing.
use Rattle.std.proofs.Common.{◌≡◌, ℕ, ◌+◌, ◌-◌, ◌<◌, ◌≤◌, min, List, [], ◌∷◌, ◌++◌, length, get_or, take, drop, set, sym, refl, ap, ◌∙◌, subst, append_assoc, append-nil, arith, length-append, length-drop}
use borrow.Rule.Slice.PartMut.{put_mid}
use Rattle.std.proofs.lemmas.List.{take_all, drop_all, take-append-drop, take_more_set, length-take, length-take-le, drop-drop, drop_more, get_or-take}
use Rattle.std.proofs.lemmas.Slice.{take-put_mid, drop-put_mid}
use Rattle.model.specs.Sheet.{Sheet, respond, run, replies}
use Rattle.sheet.specs.declared.request.Request.{Request}
use Rattle.sheet.specs.declared.request.Answer.{Answer}
use Rattle.sheet.specs.declared.sheet.Sheet.{Sheet as Kept}
use Rattle.sheet.specs.Shows.{Stands}
use Rattle.sheet.specs.Requests.{room, call_of, calls_of, all_said, all_held, Called, Ran}

-- a part that would be longer than the list is the list
take_min : {X : Type 0} (n : ℕ) (xs : List X) → take (min n (length xs)) xs ≡ take n xs
take_min n xs = grind (arith, take_all n xs, take_all (min n (length xs)) xs)

drop_min : {X : Type 0} (n : ℕ) (xs : List X) → drop (min n (length xs)) xs ≡ drop n xs
drop_min n xs = grind (arith, drop_all n xs, drop_all (min n (length xs)) xs)

module _ {R : Type 0} (before : Kept R) (requests : List Request) (output : List ℕ) where
  -- i requests are done, and with them the output up to a place: what is still to be done leads to the whole
  pub record Going (k : Kept R) (i at : ℕ) (answers : List Answer) (out : List ℕ) : Type 0 where
    pub keeps : k.house ≡ before.house
    pub does : (s₀ : Sheet) → Stands before s₀
        → (s : Sheet) × Stands k s
        × (run s (calls_of (drop i requests) (drop at out)) ≡ run s₀ (calls_of requests output))
        × (take i answers ++ all_said (drop i requests) (replies s (calls_of (drop i requests) (drop at out))) ≡ all_said requests (replies s₀ (calls_of requests output)))
        × (take at out ++ all_held (drop i requests) (replies s (calls_of (drop i requests) (drop at out))) (drop at out) ≡ all_held requests (replies s₀ (calls_of requests output)) output)

  pub going_none : (answers : List Answer) → Going before 0 0 answers output
  going_none answers = record { keeps = refl; does = λ s st. (s, st, refl, refl, refl) }

  -- one request more
  pub going_more : (k k' : Kept R) (i at end : ℕ) (answers answers' : List Answer) (out out' : List ℕ) (q : Request) (buffer : List ℕ) (a : Answer) (left : List ℕ)
      → Going k i at answers out
      → drop i requests ≡ q ∷ drop (i + 1) requests
      → buffer ≡ take (room q) (drop at out)
      → drop end out' ≡ drop (room q) (drop at out)
      → take end out' ≡ take at out ++ left
      → take (i + 1) answers' ≡ take i answers ++ (a ∷ [])
      → Called k q buffer a left k'
      → Going k' (i + 1) end answers' out'
  going_more k k' i at end answers answers' out out' q buffer a left going D eb el et ea called =
      record { keeps = called.keeps ∙ going.keeps; does = λ s₀ st₀. go s₀ (going.does s₀ st₀) }
    where
      go : (s₀ : Sheet)
          → (s : Sheet) × Stands k s
          × (run s (calls_of (drop i requests) (drop at out)) ≡ run s₀ (calls_of requests output))
          × (take i answers ++ all_said (drop i requests) (replies s (calls_of (drop i requests) (drop at out))) ≡ all_said requests (replies s₀ (calls_of requests output)))
          × (take at out ++ all_held (drop i requests) (replies s (calls_of (drop i requests) (drop at out))) (drop at out) ≡ all_held requests (replies s₀ (calls_of requests output)) output)
          → (s : Sheet) × Stands k' s
          × (run s (calls_of (drop (i + 1) requests) (drop end out')) ≡ run s₀ (calls_of requests output))
          × (take (i + 1) answers' ++ all_said (drop (i + 1) requests) (replies s (calls_of (drop (i + 1) requests) (drop end out'))) ≡ all_said requests (replies s₀ (calls_of requests output)))
          × (take end out' ++ all_held (drop (i + 1) requests) (replies s (calls_of (drop (i + 1) requests) (drop end out'))) (drop end out') ≡ all_held requests (replies s₀ (calls_of requests output)) output)
      go s₀ (s, st, r, t, h) =
          let L = drop at out in
          let rest = drop (i + 1) requests in
          let c = subst (λ b. Called k q b a left k') eb called in
          let (p, l, st') = c.does s st in
          let s' = (respond s (call_of q (take (room q) L))).sheet in
          let answer = (respond s (call_of q (take (room q) L))).answer in
          let X = all_said rest (replies s' (calls_of rest (drop (room q) L))) in
          let Y = all_held rest (replies s' (calls_of rest (drop (room q) L))) (drop (room q) L) in (
            s',
            st',
            ap {B = Sheet} (λ v. run s' (calls_of rest v)) el ∙ sym (ap {B = Sheet} (λ d. run s (calls_of d L)) D) ∙ r,
            ap {B = List Answer} (λ v. take (i + 1) answers' ++ all_said rest (replies s' (calls_of rest v))) el ∙ ap {B = List Answer} (λ v. v ++ X) ea ∙ append_assoc (take i answers) (a ∷ []) X
                ∙ ap {B = List Answer} (λ v. take i answers ++ (v ∷ X)) p ∙ sym (ap {B = List Answer} (λ d. take i answers ++ all_said d (replies s (calls_of d L))) D) ∙ t,
            ap {B = List ℕ} (λ v. take end out' ++ all_held rest (replies s' (calls_of rest v)) v) el ∙ ap {B = List ℕ} (λ v. v ++ Y) et ∙ append_assoc (take at out) left Y
                ∙ ap {B = List ℕ} (λ v. take at out ++ (v ++ Y)) l ∙ sym (ap {B = List ℕ} (λ d. take at out ++ all_held d (replies s (calls_of d L)) L) D) ∙ h,
          )

  -- all are done
  pub going_all : (k : Kept R) (i at : ℕ) (answers : List Answer) (out : List ℕ) → Going k i at answers out → length requests ≤ i → Ran before requests output (take i answers) out k
  going_all k i at answers out going l = record { keeps = going.keeps; does = λ s₀ st₀. go s₀ (going.does s₀ st₀) }
    where
      go : (s₀ : Sheet)
          → (s : Sheet) × Stands k s
          × (run s (calls_of (drop i requests) (drop at out)) ≡ run s₀ (calls_of requests output))
          × (take i answers ++ all_said (drop i requests) (replies s (calls_of (drop i requests) (drop at out))) ≡ all_said requests (replies s₀ (calls_of requests output)))
          × (take at out ++ all_held (drop i requests) (replies s (calls_of (drop i requests) (drop at out))) (drop at out) ≡ all_held requests (replies s₀ (calls_of requests output)) output)
          → (take i answers ≡ all_said requests (replies s₀ (calls_of requests output)))
          × (out ≡ all_held requests (replies s₀ (calls_of requests output)) output)
          × Stands k (run s₀ (calls_of requests output))
      go s₀ (s, st, r, t, h) =
          let e = drop_all i requests l in
          let L = drop at out in (
            sym (append-nil (take i answers)) ∙ sym (ap {B = List Answer} (λ d. take i answers ++ all_said d (replies s (calls_of d L))) e) ∙ t,
            sym (take-append-drop at out) ∙ sym (ap {B = List ℕ} (λ d. take at out ++ all_held d (replies s (calls_of d L)) L) e) ∙ h,
            subst (Stands k) (sym (ap {B = Sheet} (λ d. run s (calls_of d L)) e) ∙ r) st,
          )

  -- a turn: the next request has the next part of the output, which is then put back
  pub going_turn : (k k' : Kept R) (i at m : ℕ) (answers : List Answer) (out : List ℕ) (q : Request) (a : Answer) (left : List ℕ)
      → Going k i at answers out
      → at ≤ length out
      → i < length answers
      → drop i requests ≡ q ∷ drop (i + 1) requests
      → m ≡ min (room q) (length out - at)
      → length left ≡ length (take (at + m - at) (drop at out))
      → Called k q (take (at + m - at) (drop at out)) a left k'
      → Going k' (i + 1) (at + m) (set answers i a) (put_mid at (at + m - at) out left) × (at + m ≤ length (put_mid at (at + m - at) out left))
  going_turn k k' i at m answers out q a left going inside place D em long called =
      let L = drop at out in
      let size : length L ≡ length out - at = length-drop at out in
      let k-is : at + m - at ≡ m = omega arith in
      let m-is : m ≡ min (room q) (length L) = em ∙ ap {B = ℕ} (min (room q)) (sym size) in
      let few : m ≤ length L = omega (arith, m-is) in
      let left_is : length left ≡ m = long ∙ length-take-le (at + m - at) L (omega (arith, few)) ∙ k-is in
      let eb : take (at + m - at) L ≡ take (room q) L = ap {B = List ℕ} (λ n. take n L) (k-is ∙ m-is) ∙ take_min (room q) L in
      let el : drop (at + m) (put_mid at (at + m - at) out left) ≡ drop (room q) L =
      drop-put_mid at (at + m - at) out left (at + m) (omega arith) inside (omega (arith, left_is)) ∙ sym (drop-drop m at out) ∙ ap {B = List ℕ} (λ n. drop n L) m-is ∙ drop_min (room q) L in
      let et : take (at + m) (put_mid at (at + m - at) out left) ≡ take at out ++ left = take-put_mid at (at + m - at) out left (at + m) (omega (arith, left_is)) inside in
      let total : length (take (at + m) (put_mid at (at + m - at) out left)) ≡ at + m =
      ap length et ∙ length-append (take at out) left ∙ (let t = length-take-le at out inside in omega (arith, t, left_is)) in (
        going_more k k' i at (at + m) answers (set answers i a) out (put_mid at (at + m - at) out left) q (take (at + m - at) L) a left going D eb el et (take_more_set answers i a place) called,
        (let t = length-take (at + m) (put_mid at (at + m - at) out left) in omega (arith, t, total)),
      )

-- the next of the first n
pub drop_cut : {X : Type 0} (n : ℕ) (xs : List X) (i : ℕ) (d : X) → i < n → i < length xs → drop i (take n xs) ≡ get_or xs i d ∷ drop (i + 1) (take n xs)
drop_cut {X} n xs i d l h =
    let t = length-take n xs in
    drop_more (take n xs) i d (omega (arith, t)) ∙ ap {B = List X} (λ v. v ∷ drop (i + 1) (take n xs)) (get_or-take n xs i d l)
