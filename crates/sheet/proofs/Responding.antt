-- A sheet of the code, and the sheet that it stands for, through a call. Assumes nothing.
use Rattle.std.proofs.Common.{◌≡◌, ℕ, List, Ok, Err, sym, refl, ap, ◌∙◌, subst, Bor}
use mathlib.Core.Option.{Option, none, some}
use Rattle.model.specs.Text.{ReadRule}
use Rattle.model.specs.Reading.{rule_left}
use Rattle.sheet.specs.declared.request.Request.{Request}
use Rattle.sheet.specs.declared.request.Request.TheVariants.{Add}
use Rattle.sheet.specs.declared.request.Answer.{Answer as Said}
use Rattle.sheet.specs.Requests.{held, TextAdded, Called}
use Rattle.model.specs.declared.refusal.Refusal.{Refusal}
use Rattle.model.specs.Sheet.{Sheet, looked, Call, add, withdraw, limit, solve, frame, write, check, Answer, refused, Outcome, on_good_sheet, respond}
use Rattle.model.specs.SheetLaws.{Does as Lays, add_blank, add_unlike, add_taken, add_full, adds, withdraw_unknown, withdraws, limit_over, limits, finds, finds_none, crowds, frame_none, frame_large, moves, write_none, write_short, writes, checks}
use Rattle.model.proofs.Calls.{respond_is, refused_is, does}
use Rattle.sheet.specs.declared.sheet.Sheet.{Sheet as Kept}
use Rattle.sheet.specs.declared.page.Page.{Page}
use Rattle.sheet.specs.Shows.{Does, Opens, Stands, Responds}

-- no call changes what the look is at
look_stays : (s : Sheet) {call : Call} {o : Outcome} → Lays s call o → looked o.sheet ≡ looked s
look_stays s add_blank = refl
look_stays s (add_unlike r u) = refl
look_stays s (add_taken r l h) = refl
look_stays s (add_full r l h n) = refl
look_stays s (adds r l h n) = refl
look_stays s (withdraw_unknown name h) = refl
look_stays s (withdraws name rest h o) = refl
look_stays s (limit_over n l) = refl
look_stays s (limits n l) = refl
look_stays s (finds f e) = refl
look_stays s (finds_none e) = refl
look_stays s (crowds e) = refl
look_stays s (frame_none x e) = refl
look_stays s (frame_large x k e l) = refl
look_stays s (moves x k e l) = refl
look_stays s (write_none b e) = refl
look_stays s (write_short b k e l) = refl
look_stays s (writes b k e l) = refl
look_stays s (checks b) = refl

-- calls that write nothing leave the buffer
abbrev Quiet : Call → Type 0
Quiet (add v) = Unit {0}
Quiet (withdraw name) = ⊥
Quiet (limit n) = ⊥
Quiet solve = ⊥
Quiet (frame x) = ⊥
Quiet (write buffer) = ⊥
Quiet (check bytes) = ⊥

quiet : (s : Sheet) {call : Call} {o : Outcome} → Lays s call o → Quiet call → (buffer : List ℕ) → buffer ≡ held buffer o.answer
quiet s add_blank u buffer = refl
quiet s (add_unlike r h) u buffer = refl
quiet s (add_taken r l h) u buffer = refl
quiet s (add_full r l h n) u buffer = refl
quiet s (adds r l h n) u buffer = refl
quiet s (withdraw_unknown name h) u buffer = absurd u
quiet s (withdraws name rest h o) u buffer = absurd u
quiet s (limit_over n l) u buffer = absurd u
quiet s (limits n l) u buffer = absurd u
quiet s (finds f e) u buffer = absurd u
quiet s (finds_none e) u buffer = absurd u
quiet s (crowds e) u buffer = absurd u
quiet s (frame_none x e) u buffer = absurd u
quiet s (frame_large x k e l) u buffer = absurd u
quiet s (moves x k e l) u buffer = absurd u
quiet s (write_none b e) u buffer = absurd u
quiet s (write_short b k e l) u buffer = absurd u
quiet s (writes b k e l) u buffer = absurd u
quiet s (checks b) u buffer = absurd u

pub add_quiet : (s : Sheet) (v : ReadRule) (buffer : List ℕ) → buffer ≡ held buffer (respond s (add v)).answer
add_quiet s v buffer = go (looked s) refl
  where
    go : (o : Option Refusal) → looked s ≡ o → buffer ≡ held buffer (respond s (add v)).answer
    go (some r) l = sym (ap {B = List ℕ} (λ (o : Outcome). held buffer o.answer) (refused_is s (add v) r l))
    go none l = quiet s (does s l (add v)) tt buffer

module _ {R : Type 0} where
  -- a sheet that the look refused gives that refusal from every call, and stays
  pub refuses : (before after : Kept R) (r : Refusal) (call : Call) → before.page ≡ Err r → after.page ≡ Err r → after.house ≡ before.house → Responds before call (refused r) after
  refuses before after r call eb ea eh =
      record {
        keeps = eh;
        does = λ s st.
            let l = subst (Opens s) eb st in
            let is = refused_is s call r l in (
              sym (ap {B = Answer} (λ (o : Outcome). o.answer) is),
              subst (Stands after) (sym (ap {B = Sheet} (λ (o : Outcome). o.sheet) is)) (subst (Opens s) (sym ea) l),
            );
      }

  -- another does what its page does
  pub responds : (before after : Kept R) (p q : Page) (call : Call) (a : Answer) → before.page ≡ Ok p → after.page ≡ Ok q → after.house ≡ before.house → Does p call a q → Responds before call a after
  responds before after p q call a eb ea eh d =
      record {
        keeps = eh;
        does = λ s st.
            let (l, sh) = subst (Opens s) eb st in
            let is = respond_is s call l in
            let (said, shown) = d s sh in
            let o = on_good_sheet s call in
            let stays : looked o.sheet ≡ none = subst (λ (o : Outcome). looked o.sheet ≡ none) is (look_stays s (does s l call) ∙ l) in (
              said ∙ sym (ap {B = Answer} (λ (o : Outcome). o.answer) is),
              subst (Stands after) (sym (ap {B = Sheet} (λ (o : Outcome). o.sheet) is)) (subst (Opens o.sheet) (sym ea) (stays, shown)),
            );
      }

  -- a request to add is its text added
  pub called_add : (before after : Kept R) (q : Request) (text : Bor (List ℕ)) (S C : ℕ) (buffer : List ℕ) (a : Said) → q ≡ Add text S C → TextAdded before text.now S C a after → Called before q buffer a buffer after
  called_add before after q text S C buffer a e t =
      subst (λ q. Called before q buffer a buffer after) (sym e)
      (record { keeps = t.keeps; does = λ s st. let (p, st') = t.does s st in (p, add_quiet s (rule_left S C text.now) buffer, st') })
