-- A refusal alters nothing but what solve discards; a sheet that the look refuses stays as it is.
use Rattle.std.proofs.Common.{◌≡◌, ℕ, ◌⊎◌, List, [], ◌∷◌, refl, ap, ◌∙◌, subst, inl, inr, arith}
use mathlib.Core.Option.{Option, none, some}
use Rattle.model.specs.declared.refusal.Refusal.{Refusal}
use Rattle.model.specs.Lists.{In}
use Rattle.model.specs.Sheet.{Sheet, looked, opened, with_stored, Call, solve, Answer, refused, Outcome, answer, after, run, replies}
use Rattle.model.specs.SheetLaws.{Does, add_blank, add_unlike, add_taken, add_full, adds, withdraw_unknown, withdraws, limit_over, limits, finds, finds_none, crowds, frame_none, frame_large, moves, write_none, write_short, writes, checks, RefusedSheet, RefusalsKeep}
use Rattle.model.proofs.Calls.{does, refused_is}

does_keep : (s : Sheet) {call : Call} {o : Outcome} → Does s call o → (r : Refusal) → o.answer ≡ refused r → (o.sheet ≡ s) ⊎ ((call ≡ solve) × (o.sheet ≡ with_stored s none))
does_keep s add_blank r e = inl refl
does_keep s (add_unlike a n) r e = inl refl
does_keep s (add_taken a l t) r e = inl refl
does_keep s (add_full a l n m) r e = inl refl
does_keep s (adds a l n room) r e = let z : ◌≡◌ {A = ℕ} 0 1 = cc in absurd (omega arith)
does_keep s (withdraw_unknown name n) r e = inl refl
does_keep s (withdraws name rest t o) r e = let z : ◌≡◌ {A = ℕ} 0 1 = cc in absurd (omega arith)
does_keep s (limit_over n l) r e = inl refl
does_keep s (limits n l) r e = let z : ◌≡◌ {A = ℕ} 0 1 = cc in absurd (omega arith)
does_keep s (finds f g) r e = let z : ◌≡◌ {A = ℕ} 0 1 = cc in absurd (omega arith)
does_keep s (finds_none g) r e = inr (refl, refl)
does_keep s (crowds g) r e = inr (refl, refl)
does_keep s (frame_none x g) r e = inl refl
does_keep s (frame_large x k g l) r e = inl refl
does_keep s (moves x k g l) r e = let z : ◌≡◌ {A = ℕ} 0 1 = cc in absurd (omega arith)
does_keep s (write_none buffer g) r e = inl refl
does_keep s (write_short buffer k g l) r e = inl refl
does_keep s (writes buffer k g l) r e = inl refl
does_keep s (checks bytes) r e = inl refl

pub refusals_keep : RefusalsKeep
refusals_keep s call r e = go (looked s) refl
  where
    go : (o : Option Refusal) → looked s ≡ o → (after s call ≡ s) ⊎ ((call ≡ solve) × (after s call ≡ with_stored s none))
    go none l = does_keep s (does s l call) r e
    go (some n) l = inl (ap (λ (o : Outcome). o.sheet) (refused_is s call n l))

all_refused : (calls : List Call) (s : Sheet) (r : Refusal) → looked s ≡ some r → (run s calls ≡ s) × ((a : Answer) → In (replies s calls) a → a ≡ refused r)
all_refused [] s r l = (refl, λ a i. absurd i)
all_refused (call ∷ calls) s r l =
    let e : after s call ≡ s = ap (λ (o : Outcome). o.sheet) (refused_is s call r l) in
    let (f, g) = all_refused calls s r l in
    (ap (λ t. run t calls) e ∙ f, λ a i. each a g i e)
  where
    each : (a : Answer) → ((a : Answer) → In (replies s calls) a → a ≡ refused r) → (a ≡ answer s call) ⊎ In (replies (after s call) calls) a → after s call ≡ s → a ≡ refused r
    each a g (inl k) e = k ∙ ap (λ (o : Outcome). o.answer) (refused_is s call r l)
    each a g (inr i) e = g a (subst (λ t. In (replies t calls) a) e i)

pub refused_sheet : RefusedSheet
refused_sheet house S C capacity r e calls = all_refused calls (opened house S C capacity) r e
