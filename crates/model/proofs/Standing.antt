-- The added rules on a sheet are those of the adds accepted, each until a withdraw of its name is accepted.
use Rattle.std.proofs.Common.{◌≡◌, ℕ, suc, ◌⊎◌, ◌↔◌, List, [], ◌∷◌, ◌++◌, length, sym, refl, ap, ◌∙◌, subst, inl, inr, arith}
use mathlib.Core.Option.{Option, none, some}
use Rattle.model.specs.declared.refusal.Refusal.{Refusal}
use Rattle.model.specs.Lists.{In}
use Rattle.model.specs.Text.{Named, ReadRule, filled}
use Rattle.model.specs.Sheet.{Sheet, looked, opened, Call, add, withdraw, done, refused, Outcome, answers, respond, answer, after, run}
use Rattle.model.specs.SheetLaws.{SameName, Others, Does, add_blank, add_unlike, add_taken, add_full, adds, withdraw_unknown, withdraws, limit_over, limits, finds, finds_none, crowds, frame_none, frame_large, moves, write_none, write_short, writes, checks, Standing, RulesStand}
use Rattle.model.proofs.Lists.{in_left, in_right, in_append}
use Rattle.model.proofs.Calls.{others_in, in_others, does, refused_is}

-- what a call does to the added rules: it is no add or withdraw that is accepted, and keeps them; or it is
data Effect (s : Sheet) (call : Call) (o : Outcome) : Type 0 where
  added : (r : Named) → call ≡ add (filled r) → o.answer ≡ done → o.sheet.added ≡ s.added ++ (r ∷ []) → Effect s call o
  withdrawn : (name : List ℕ) → call ≡ withdraw name → o.answer ≡ done → Others name s.added o.sheet.added → Effect s call o
  kept : o.sheet.added ≡ s.added → (o.answer ≡ done → (rule : ReadRule) → call ≡ add rule → ⊥) → (o.answer ≡ done → (name : List ℕ) → call ≡ withdraw name → ⊥) → Effect s call o

refusing : (s : Sheet) (call : Call) (n : Refusal) → Effect s call (answers s (refused n))
refusing s call n = kept refl (λ d rule k. (let z : ◌≡◌ {A = ℕ} 0 1 = cc in omega arith)) (λ d name k. (let z : ◌≡◌ {A = ℕ} 0 1 = cc in omega arith))

-- another call, which keeps the added rules
other : (s : Sheet) (call : Call) (o : Outcome) → o.sheet.added ≡ s.added → ((rule : ReadRule) → call ≡ add rule → ⊥) → ((name : List ℕ) → call ≡ withdraw name → ⊥) → Effect s call o
other s call o e a w = kept e (λ d rule k. a rule k) (λ d name k. w name k)

does_effect : (s : Sheet) {call : Call} {o : Outcome} → Does s call o → Effect s call o
does_effect s add_blank = refusing s _ _
does_effect s (add_unlike r n) = refusing s _ _
does_effect s (add_taken r l t) = refusing s _ _
does_effect s (add_full r l n m) = refusing s _ _
does_effect s (adds r l n room) = added r refl refl refl
does_effect s (withdraw_unknown name n) = refusing s _ _
does_effect s (withdraws name rest t o) = withdrawn name refl refl o
does_effect s (limit_over n l) = refusing s _ _
does_effect s (limits n l) = other s _ _ refl (λ rule k. (let z : ◌≡◌ {A = ℕ} 0 1 = cc in omega arith)) (λ name k. (let z : ◌≡◌ {A = ℕ} 0 1 = cc in omega arith))
does_effect s (finds f e) = other s _ _ refl (λ rule k. (let z : ◌≡◌ {A = ℕ} 0 1 = cc in omega arith)) (λ name k. (let z : ◌≡◌ {A = ℕ} 0 1 = cc in omega arith))
does_effect s (finds_none e) = other s _ _ refl (λ rule k. (let z : ◌≡◌ {A = ℕ} 0 1 = cc in omega arith)) (λ name k. (let z : ◌≡◌ {A = ℕ} 0 1 = cc in omega arith))
does_effect s (crowds e) = other s _ _ refl (λ rule k. (let z : ◌≡◌ {A = ℕ} 0 1 = cc in omega arith)) (λ name k. (let z : ◌≡◌ {A = ℕ} 0 1 = cc in omega arith))
does_effect s (frame_none x e) = refusing s _ _
does_effect s (frame_large x k e l) = refusing s _ _
does_effect s (moves x k e l) = other s _ _ refl (λ rule k. (let z : ◌≡◌ {A = ℕ} 0 1 = cc in omega arith)) (λ name k. (let z : ◌≡◌ {A = ℕ} 0 1 = cc in omega arith))
does_effect s (write_none buffer e) = refusing s _ _
does_effect s (write_short buffer k e l) = refusing s _ _
does_effect s (writes buffer k e l) = other s _ _ refl (λ rule k. (let z : ◌≡◌ {A = ℕ} 0 1 = cc in omega arith)) (λ name k. (let z : ◌≡◌ {A = ℕ} 0 1 = cc in omega arith))
does_effect s (checks bytes) = other s _ _ refl (λ rule k. (let z : ◌≡◌ {A = ℕ} 0 1 = cc in omega arith)) (λ name k. (let z : ◌≡◌ {A = ℕ} 0 1 = cc in omega arith))

effect : (s : Sheet) (call : Call) → Effect s call (respond s call)
effect s call = go (looked s) refl
  where
    go : (o : Option Refusal) → looked s ≡ o → Effect s call (respond s call)
    go none l = does_effect s (does s l call)
    go (some r) l = subst (Effect s call) (sym (refused_is s call r l)) (refusing s call r)

-- no withdraw of the name among the calls is accepted
abbrev Unwithdrawn : Sheet → List Call → List ℕ → Type 0
Unwithdrawn s calls nm =
    (before behind : List Call) (name : List ℕ) → calls ≡ before ++ (withdraw name ∷ behind) → answer (run s before) (withdraw name) ≡ done → SameName name nm → ⊥

module _ (s : Sheet) (call : Call) (rest : List Call) (nm : List ℕ) where
  un_cons : Unwithdrawn (after s call) rest nm → ((name : List ℕ) → call ≡ withdraw name → answer s call ≡ done → SameName name nm → ⊥) → Unwithdrawn s (call ∷ rest) nm
  un_cons un first [] behind name e d t = let k : call ≡ withdraw name = cc in first name k (subst (λ c. answer s c ≡ done) (sym k) d) t
  un_cons un first (b ∷ bs) behind name e d t =
      let k : call ≡ b = cc in
      let r : rest ≡ bs ++ (withdraw name ∷ behind) = cc in
      un bs behind name r (subst (λ c. answer (run (after s c) bs) (withdraw name) ≡ done) (sym k) d) t

  un_tail : Unwithdrawn s (call ∷ rest) nm → Unwithdrawn (after s call) rest nm
  un_tail un before behind name e d t = un (call ∷ before) behind name (ap {B = List Call} (λ l. call ∷ l) e) d t

  un_head : Unwithdrawn s (call ∷ rest) nm → (name : List ℕ) → call ≡ withdraw name → answer s call ≡ done → SameName name nm → ⊥
  un_head un name e d t = un [] rest name (ap {B = List Call} (λ c. c ∷ rest) e) (subst (λ c. answer s c ≡ done) e d) t

empty_split : {X : Type 0} (before : List X) (x : X) (behind : List X) → [] ≡ before ++ (x ∷ behind) → ⊥
empty_split {X} [] x behind e = let z : ◌≡◌ {A = ℕ} 0 (suc (length behind)) = ap length e in omega arith
empty_split {X} (b ∷ before) x behind e = let z : ◌≡◌ {A = ℕ} 0 (suc (length (before ++ (x ∷ behind)))) = ap length e in omega arith

module _ (a : Named) where
  abbrev There : Sheet → List Call → Type 0
  There s calls = (In s.added a × Unwithdrawn s calls a.name) ⊎ Standing s calls a

  stand_later : (s : Sheet) (call : Call) (rest : List Call) → Standing (after s call) rest a → Standing s (call ∷ rest) a
  stand_later s call rest (earlier, later, e, d, un) = (call ∷ earlier, later, ap {B = List Call} (λ l. call ∷ l) e, d, un)

  -- forward
  there : (s : Sheet) (call : Call) (rest : List Call) → Effect s call (respond s call) → There (after s call) rest → There s (call ∷ rest)
  there s call rest ef (inr st) = inr (stand_later s call rest st)
  there s call rest (kept k na nw) (inl (i, un)) = inl (subst (λ l. In l a) k i, un_cons s call rest a.name un (λ name e d t. nw d name e))
  there s call rest (withdrawn name e d o) (inl (i, un)) =
      let (j, n) = others_in name o a i in
      inl (j, un_cons s call rest a.name un (λ name' e' d' t. (let f : name' ≡ name = cc in n (subst (λ m. SameName m a.name) f t))))
  there s call rest (added r e d k) (inl (i, un)) = go (in_append s.added (r ∷ []) a (subst (λ l. In l a) k i))
    where
      go : In s.added a ⊎ In (r ∷ []) a → There s (call ∷ rest)
      go (inl j) = inl (j, un_cons s call rest a.name un (λ name e' d' t. (let z : ◌≡◌ {A = ℕ} 0 1 = cc in omega arith)))
      go (inr (inl f)) =
          let g : call ≡ add (filled a) = cc in
          inr (
            [],
            rest,
            ap {B = List Call} (λ c. c ∷ rest) g,
            subst (λ c. answer s c ≡ done) g d,
            λ before behind name h l t. un before behind name h (subst (λ c. answer (run (after s c) before) (withdraw name) ≡ done) (sym g) l) t,
          )
      go (inr (inr z)) = absurd z

  -- back
  back : (s : Sheet) (call : Call) (rest : List Call) → Effect s call (respond s call) → There s (call ∷ rest) → There (after s call) rest
  back s call rest (kept k na nw) (inl (i, un)) = inl (subst (λ l. In l a) (sym k) i, un_tail s call rest a.name un)
  back s call rest (added r e d k) (inl (i, un)) = inl (subst (λ l. In l a) (sym k) (in_left s.added (r ∷ []) a i), un_tail s call rest a.name un)
  back s call rest (withdrawn name e d o) (inl (i, un)) =
      inl (in_others name o a i (λ t. un_head s call rest a.name un name e d t), un_tail s call rest a.name un)
  back s call rest ef (inr (e₀ ∷ es, later, e, d, un)) =
      let f : call ≡ e₀ = cc in
      let g : rest ≡ es ++ (add (filled a) ∷ later) = cc in
      inr (
        es,
        later,
        g,
        subst (λ c. answer (run (after s c) es) (add (filled a)) ≡ done) (sym f) d,
        λ before behind name h l t. un before behind name h (subst (λ c. answer (run (after s c) (es ++ (add (filled a) ∷ before))) (withdraw name) ≡ done) f l) t,
      )
  back s call rest ef (inr ([], later, e, d, un)) = go ef
    where
      f : call ≡ add (filled a)
      f = cc

      g : rest ≡ later
      g = cc

      go : Effect s call (respond s call) → There (after s call) rest
      go (kept k' na nw) = absurd (na (subst (λ c. answer s c ≡ done) (sym f) d) (filled a) f)
      go (withdrawn name e' d' o) = let z : ◌≡◌ {A = ℕ} 0 1 = cc in absurd (omega arith)
      go (added r e' d' k') =
          let h : a ≡ r = cc in
          inl (
            subst (λ l. In l a) (sym k') (in_right s.added (r ∷ []) a (inl h)),
            λ before behind name e'' l t. un before behind name (sym g ∙ e'') (subst (λ c. answer (run (after s c) before) (withdraw name) ≡ done) f l) t,
          )

  stand : (calls : List Call) (s : Sheet) → In (run s calls).added a ↔ There s calls
  stand [] s = (λ i. inl (i, λ before behind name e d t. empty_split before (withdraw name) behind e), λ r. go r)
    where
      go : There s [] → In s.added a
      go (inl (i, un)) = i
      go (inr (earlier, later, e, d, un)) = absurd (empty_split earlier (add (filled a)) later e)
  stand (call ∷ rest) s =
      let (f, g) = stand rest (after s call) in
      ((λ i. there s call rest (effect s call) (f i)), (λ r. g (back s call rest (effect s call) r)))

pub rules_stand : RulesStand
rules_stand house S C capacity calls a =
    let (f, g) = stand a calls (opened house S C capacity) in
    ((λ i. go (f i)), (λ st. g (inr st)))
  where
    go : There a (opened house S C capacity) calls → Standing (opened house S C capacity) calls a
    go (inl (i, un)) = absurd i
    go (inr st) = st
