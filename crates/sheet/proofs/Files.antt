-- Write and check on a page, as on the sheet that it stands for. Assumes nothing.
use Rattle.std.proofs.Common.{◌≡◌, ℕ, ◌-◌, Bool, true, false, leb, List, map, length, take, Some, vec_items, Option as Optional, Result, sym, refl, ap, ◌∙◌, subst, arith}
use Rattle.model.specs.declared.refusal.Refusal.{Refusal}
use Rattle.model.specs.declared.refusal.Refusal.TheVariants.{ShortBuffer}
use Rattle.model.specs.Automaton.{Automaton, Row}
use Rattle.model.specs.Rules.{together}
use Rattle.model.specs.File.{file, tallies}
use Rattle.model.specs.File as File
use Rattle.model.specs.Positions.{Found, Position}
use Rattle.model.specs.Sheet.{Sheet, rules, file_of, overwritten, write_on, write_with, Outcome, Answer, answers, wrote, refused}
use Rattle.ctlfile.specs.Files as Put
use Rattle.ctlfile.proofs.Alike.{checks_alike, files_alike}
use Rattle.synthesis.specs.declared.state.State.{State}
use Rattle.synthesis.specs.Tables.{automaton, Agrees}
use Rattle.synthesis.specs.Answers.{Stores, row_of, position_of}
use Rattle.synthesis.proofs.Gathered.{agrees_trans}
use Rattle.sheet.specs.declared.page.Page.{Page}
use Rattle.sheet.specs.declared.stored.Stored.{Stored}
use Rattle.sheet.specs.Added.{meaning}
use Rattle.sheet.specs.Shows.{Shows, Keeps, written}
use Rattle.sheet.proofs.Paging.{rules_agree}

-- what write says and leaves, by whether the file fits
fits_or_not : (F buffer left : List ℕ) (r : Result ℕ Refusal) → r ≡ Put.written F buffer → left ≡ Put.left F buffer
    → written r left ≡ elim (leb (length F) (length buffer)) [ false ↦ refused ShortBuffer | true ↦ wrote (length F) (overwritten F buffer) ]
fits_or_not F buffer left r er el = grind (arith, er, el)

answer_of : (s : Sheet) (F buffer : List ℕ) (b : Bool)
    → elim b [ false ↦ refused ShortBuffer | true ↦ wrote (length F) (overwritten F buffer) ] ≡ (elim b as (λ _. Outcome) [ false ↦ answers s (refused ShortBuffer) | true ↦ answers s (wrote (length F) (overwritten F buffer)) ]).answer
answer_of s F buffer true = refl
answer_of s F buffer false = refl

sheet_of : (s : Sheet) (F buffer : List ℕ) (b : Bool)
    → (elim b as (λ _. Outcome) [ false ↦ answers s (refused ShortBuffer) | true ↦ answers s (wrote (length F) (overwritten F buffer)) ]).sheet ≡ s
sheet_of s F buffer true = refl
sheet_of s F buffer false = refl

module _ (p : Page) (s : Sheet) (shows : Shows p s) (A : Automaton) (agrees : Agrees A (together (automaton p.table.arrows) (map meaning (vec_items p.added)))) where
  as_rules : Agrees A (rules s)
  as_rules = agrees_trans A (together (automaton p.table.arrows) (map meaning (vec_items p.added))) (rules s) agrees (rules_agree p s shows)

  -- check says the same for the rules of the page
  pub checked_as : (bytes : List ℕ) → File.check A bytes ≡ File.check (rules s) bytes
  checked_as bytes = checks_alike A (rules s) as_rules bytes

  -- write puts down the file of the controller that is stored
  pub file_as : (f : Found) (k : Stored) (states : List State) → Stores (rules s) f k.found states → Put.file_of A (take (k.found.states - 0) states) k.found.count ≡ file_of s f
  unfolding Put.file_of
  file_as f k states st =
      let n : k.found.states - 0 ≡ k.found.states = omega arith in
      let g = as_rules in
      files_alike A (rules s) g (map (row_of A.situations) (take (k.found.states - 0) states)) (tallies (map (position_of A.states) (take (k.found.states - 0) states))) k.found.count
      ∙ ap {B = List ℕ} (λ m. file (rules s) (map (row_of A.situations) (take m states)) (tallies (map (position_of A.states) (take m states))) k.found.count) n
      ∙ ap {B = List ℕ} (λ m. file (rules s) (map (row_of m) (take k.found.states states)) (tallies (map (position_of A.states) (take k.found.states states))) k.found.count) g.situations
      ∙ ap {B = List ℕ} (λ m. file (rules s) (map (row_of (rules s).situations) (take k.found.states states)) (tallies (map (position_of m) (take k.found.states states))) k.found.count) g.states
      ∙ ap {B = List ℕ} (λ (rows : List Row). file (rules s) rows (tallies (map (position_of (rules s).states) (take k.found.states states))) k.found.count) st.rows
      ∙ ap {B = List ℕ} (λ (ps : List Position). file (rules s) f.rows (tallies ps) k.found.count) st.positions
      ∙ ap {B = List ℕ} (file (rules s) f.rows (tallies f.positions)) st.count

  pub writes_as : (k : Stored) (buffer left : List ℕ) (r : Result ℕ Refusal) → p.stored ≡ Some k
      → r ≡ Put.written (Put.file_of A (take (k.found.states - 0) (vec_items p.workspace.states)) k.found.count) buffer
      → left ≡ Put.left (Put.file_of A (take (k.found.states - 0) (vec_items p.workspace.states)) k.found.count) buffer
      → (written r left ≡ (write_on s buffer).answer) × Shows p (write_on s buffer).sheet
  writes_as k buffer left r e er el =
      let F : Optional Stored → Type 0 = λ o. Keeps s o (vec_items p.workspace.states) in
      let (f, is, st) = subst F e shows.stored in
      let same = file_as f k (vec_items p.workspace.states) st in
      let said = fits_or_not (file_of s f) buffer left r (er ∙ ap {B = Result ℕ Refusal} (λ v. Put.written v buffer) same) (el ∙ ap {B = List ℕ} (λ v. Put.left v buffer) same) in
      let out = ap {B = Outcome} (write_with s buffer) is in
      let b = leb (length (file_of s f)) (length buffer) in (
        said ∙ answer_of s (file_of s f) buffer b ∙ sym (ap {B = Answer} (λ (o : Outcome). o.answer) out),
        subst (Shows p) (sym (ap {B = Sheet} (λ (o : Outcome). o.sheet) out ∙ sheet_of s (file_of s f) buffer b)) shows,
      )
