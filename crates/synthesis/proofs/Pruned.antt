-- One round of pruning. Assumes nothing.
use Rattle.std.proofs.Common.{◌≡◌, ℕ, zero, suc, ◌+◌, ◌<◌, Bool, true, false, cond, List, [], ◌∷◌, length, set, Some, None, Option, sym, ap, ◌∙◌, subst, inl, inr, true≢false, arith, length-set, get_or-set_other}
use mathlib.Core.Bool.{false≢true}
use Rattle.std.proofs.lemmas.Bool.{cases_eq, cases_Bool}
use Rattle.synthesis.specs.Safety.{link, flag, into, Keeping, Closed, Widest, trues}

-- the first n places are looked at
pub record Pruning (C S : ℕ) (links : List (List (Option ℕ))) (before now : List Bool) (pruned : Bool) (n : ℕ) : Type 0 where
  pub widest : Widest C S links before → Widest C S links now
  pub long : length now ≡ length before
  pub closed : pruned ≡ false → (now ≡ before) × ((h : ℕ) → h < n → flag now h ≡ true → Keeping C S links (flag now) h)
  pub fewer : pruned ≡ true → trues now < trues before

-- the one at n stays
pub prune_stays : (C S : ℕ) (links : List (List (Option ℕ))) (before now : List Bool) (pruned : Bool) (n : ℕ) → (flag now n ≡ true → Keeping C S links (flag now) n)
    → Pruning C S links before now pruned n → Pruning C S links before now pruned (n + 1)
prune_stays C S links before now pruned n k r =
    record {
      widest = r.widest;
      long = r.long;
      closed = λ e. ((r.closed e).0, λ h l f. elim (cases_eq h n) [ inl p ↦ subst (λ v. Keeping C S links (flag now) v) (sym p) (k (subst (λ v. flag now v ≡ true) p f)) | inr q ↦ (r.closed e).1 h (omega (arith, l, q)) f ]);
      fewer = r.fewer;
    }

trues_less : (bs : List Bool) (n : ℕ) → flag bs n ≡ true → trues (set bs n false) < trues bs
trues_less [] n e = absurd (false≢true e)
trues_less (b ∷ bs) zero e = subst (λ v. 0 + trues bs < cond v 1 0 + trues bs) (sym e) (omega arith)
trues_less (b ∷ bs) (suc n) e = let h = trues_less bs n e in omega arith

-- a link into a set leads into a larger one
into_more : (s t : ℕ → Bool) → ((l : ℕ) → s l ≡ true → t l ≡ true) → (o : Option ℕ) → into s o ≡ true → into t o ≡ true
into_more s t f None e = e
into_more s t f (Some l) e = f l e

-- what no command keeps is in no safe set
widest_pruned : (C S : ℕ) (links : List (List (Option ℕ))) (now : List Bool) (n : ℕ) → (Keeping C S links (flag now) n → ⊥) → Widest C S links now → Widest C S links (set now n false)
widest_pruned C S links now n nay w t closed h th =
    let c : Closed C S (length now) links t = subst (λ k. Closed C S k links t) (length-set now n false) closed in
    elim (cases_eq h n) [
      | inl p ↦ absurd (let k = (c h th).1 in nay (subst (λ v. Keeping C S links (flag now) v) p (k.0, k.1, λ x l. into_more t (flag now) (w t c) (link links h k.0 x) (k.2 x l))))
      | inr q ↦ get_or-set_other now n h false false q ∙ w t c h th
    ]

pub prune_takes : (C S : ℕ) (links : List (List (Option ℕ))) (before now : List Bool) (pruned : Bool) (n : ℕ) → flag now n ≡ true → (Keeping C S links (flag now) n → ⊥)
    → Pruning C S links before now pruned n → Pruning C S links before (set now n false) true (n + 1)
prune_takes C S links before now pruned n f nay r =
    record {
      widest = λ w. widest_pruned C S links now n nay (r.widest w);
      long = length-set now n false ∙ r.long;
      closed = λ e. absurd (true≢false e);
      fewer = λ _. elim (cases_Bool pruned) [
        | inl e ↦ omega (arith, trues_less now n f, r.fewer e)
        | inr e ↦ omega (arith, trues_less now n f, ap trues (r.closed e).0)
      ];
    }

-- past the end no flag is set
pub flag_inside : (bs : List Bool) (h : ℕ) → flag bs h ≡ true → h < length bs
flag_inside [] h e = absurd (false≢true e)
flag_inside (b ∷ bs) zero e = omega arith
flag_inside (b ∷ bs) (suc h) e = let k = flag_inside bs h e in omega arith
