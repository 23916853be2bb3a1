-- Whenever a controller is stored, it is the best for the rules on the sheet, and the file that write puts down is accepted.
use Rattle.std.proofs.Common.{◌≡◌, ℕ, ◌<◌, ◌≤◌, List, [], ◌∷◌, ◌++◌, map, length, get_or, take, drop, sym, refl, ap, ◌∙◌, subst, subst₂, arith}
use mathlib.Core.List.{map-map}
use mathlib.Core.Option.{Option, none, some}
use Rattle.std.specs.List.{range_with_len}
use Rattle.std.proofs.lemmas.List.{take_at, ext_get_or}
use Rattle.std.proofs.lemmas.List.FromFn.{fill_by_all, get_or-map-range_with_len}
use Rattle.model.specs.Automaton.{Automaton, Controller, WellFormed, CountIs, Row, no_row, controller}
use Rattle.model.specs.Lists.{joined}
use Rattle.model.specs.Positions.{Position, mark, Found, found}
use Rattle.model.specs.Positions as Positions
use Rattle.model.specs.File.{tally_byte, tallies, file}
use Rattle.model.specs.File as File
use Rattle.model.specs.Sheet.{Sheet, Stored, opened, rules, rule_list, with_stored, Call, write, check, accepted, wrote, Outcome, file_of, verdict, respond, answer, after, run}
use Rattle.model.specs.SheetLaws.{in_next, Does, add_blank, add_unlike, add_taken, add_full, adds, withdraw_unknown, withdraws, limit_over, limits, finds, finds_none, crowds, frame_none, frame_large, moves, write_none, write_short, writes, checks}
use Rattle.model.specs.History.{rows_of, FileOf, StoredBest, Written, WrittenAccepted, AfterCalls}
use Rattle.model.specs.CountLaws.{Valid}
use Rattle.model.proofs.Lists.{in_getD, joined_counting}
use Rattle.model.proofs.Solving.{Best, Solved, solved}
use Rattle.model.proofs.Calls.{does, respond_is}
use Rattle.model.proofs.Sheets.{Sound, opened_sound, run_sound, after_sound, for_sheet, for_rules}
use Rattle.model.proofs.Histories.{agrees, no_cycle}
use Rattle.model.proofs.Checking.{rows_long, cert, cert_long, cert_bytes, win_accepted, reads}

-- what a call does to the stored controller
data Change (s : Sheet) (o : Outcome) : Type 0 where
  drops : o.sheet.stored ≡ none → Change s o
  same : o.sheet ≡ s → Change s o
  solves : (f : Found) → Positions.solve (rules s) s.capacity s.limit ≡ found f → o.sheet ≡ with_stored s (some (record { found = f; current = 0 })) → Change s o
  moved : (k : Stored) (x : ℕ) → s.stored ≡ some k → x < s.situations → o.sheet ≡ with_stored s (some (in_next k x)) → Change s o

does_change : (s : Sheet) {call : Call} {o : Outcome} → Does s call o → Change s o
does_change s add_blank = same refl
does_change s (add_unlike r n) = same refl
does_change s (add_taken r l t) = same refl
does_change s (add_full r l n m) = same refl
does_change s (adds r l n room) = drops refl
does_change s (withdraw_unknown name n) = same refl
does_change s (withdraws name rest t o) = drops refl
does_change s (limit_over n l) = same refl
does_change s (limits n l) = drops refl
does_change s (finds f e) = solves f e refl
does_change s (finds_none e) = drops refl
does_change s (crowds e) = drops refl
does_change s (frame_none x e) = same refl
does_change s (frame_large x k e l) = same refl
does_change s (moves x k e l) = moved k x e l refl
does_change s (write_none buffer e) = same refl
does_change s (write_short buffer k e l) = same refl
does_change s (writes buffer k e l) = same refl
does_change s (checks bytes) = same refl

-- what holds of a stored controller
record Kept (s : Sheet) (k : Stored) : Type 0 where
  best : Best (rules s) s.capacity k.found s.limit
  inside : k.current < length k.found.rows

abbrev AllKept : Sheet → Type 0
AllKept s = (k : Stored) → s.stored ≡ some k → Kept s k

keep : (s : Sheet) → Sound s → AllKept s → (o : Outcome) → Change s o → AllKept o.sheet
keep s h all o (drops e) = λ k f. (let z : ◌≡◌ {A = ℕ} 0 1 = cc in absurd (omega arith))
keep s h all o (same e) = subst AllKept (sym e) all
keep s h all o (solves f e g) = subst AllKept (sym g) (λ k i. only k i)
  where
    b : Best (rules s) s.capacity f s.limit
    b = subst (Solved (rules s) s.capacity s.limit) e (solved (rules s) s.capacity s.limit)

    only : (k : Stored) → ◌≡◌ {A = Option Stored} (some (record { found = f; current = 0 })) (some k) → Kept (with_stored s (some (record { found = f; current = 0 }))) k
    only k i =
        let j : record { found = f; current = 0 } ≡ k = cc in
        subst (Kept (with_stored s (some (record { found = f; current = 0 })))) j (record { best = b; inside = b.formed.some_state })
keep s h all o (moved k x e hx g) = subst AllKept (sym g) (λ k' i. only k' i)
  where
    c : Kept s k
    c = all k e

    only : (k' : Stored) → ◌≡◌ {A = Option Stored} (some (in_next k x)) (some k') → Kept (with_stored s (some (in_next k x))) k'
    only k' i =
        let j : in_next k x ≡ k' = cc in
        subst (Kept (with_stored s (some (in_next k x)))) j
        (record { best = c.best; inside = (for_sheet s h (controller k.found.rows) c.best.formed).nexts k.current x c.inside hx })

run_keeps : (calls : List Call) (s : Sheet) → Sound s → AllKept s → AllKept (run s calls)
run_keeps [] s h all = all
run_keeps (call ∷ calls) s h all =
    run_keeps calls (after s call) (after_sound s h call)
    (keep s h all (respond s call) (does_change s (does s h.looked call)))

opened_keeps : (house : Automaton) (S C capacity : ℕ) → AllKept (opened house S C capacity)
opened_keeps house S C capacity k e = let z : ◌≡◌ {A = ℕ} 0 1 = cc in absurd (omega arith)

stored_best : (s : Sheet) → Sound s → AllKept s → StoredBest s
stored_best s h all k e =
    let c : Kept s k = all k e in
    let K : Controller = controller k.found.rows in
    let over : CountIs (rule_list s) K k.found.count = (agrees s h K k.found.count).2.1 c.best.exact in
    record {
      formed = for_sheet s h K c.best.formed;
      inside = c.inside;
      limited = c.best.limited;
      described = c.best.described;
      own = over;
      acyclic = no_cycle s h K k.found.count over.most;
      least = λ other n w most. c.best.least other n (for_rules s h other w) ((agrees s h other n).0.0 most);
    }

pub stored_stands : AfterCalls StoredBest
stored_stands house S C capacity e calls =
    stored_best (run (opened house S C capacity) calls) (run_sound (opened house S C capacity) (opened_sound house S C capacity e) calls)
    (run_keeps calls (opened house S C capacity) (opened_sound house S C capacity e) (opened_keeps house S C capacity))

-- what write puts down

module _ (s : Sheet) (h : Sound s) (k : Stored) (c : Kept s k) where
  abbrev B : Automaton
  B = rules s

  K : Controller
  K = controller k.found.rows

  C : ℕ → ℕ → ℕ
  C i q = mark (get_or k.found.positions i []) q

  low : k.found.count ≤ 14
  low = omega (arith, c.best.limited, h.limited)

  v : Valid B K k.found.count C
  unfolding K C
  v = c.best.valid

  few : K.size ≤ 1024
  unfolding K
  few = omega (arith, c.best.few, h.roomy)

  row_same : (i : ℕ) → i < length k.found.rows → get_or (rows_of B K) i no_row ≡ get_or k.found.rows i no_row
  unfolding K
  row_same i hi =
      let r : Row = get_or k.found.rows i no_row in
      let l : length r.nexts ≡ B.situations = c.best.nexts r (in_getD k.found.rows i no_row hi) in
      let e : r.nexts ≡ map (λ x. get_or r.nexts x 0) (range_with_len 0 B.situations) = fill_by_all (λ x. get_or r.nexts x 0) r.nexts B.situations 0 l (λ x hx. refl) in
      get_or-map-range_with_len (λ i. record { command = K.command i; nexts = map (K.next i) (range_with_len 0 B.situations) }) 0 K.size i i no_row hi (omega arith)
      ∙ ap {B = Row} (λ n. record { command = r.command; nexts = n }) (sym e)

  rows_same : rows_of B K ≡ k.found.rows
  unfolding K
  rows_same =
      ext_get_or no_row (rows_of B K) k.found.rows (rows_long B K) (λ i hi. row_same i (omega (arith, rows_long B K)))

  line_same : (P : Position) (i : ℕ) → get_or k.found.positions i [] ≡ P → length P ≡ B.states → map (λ q. tally_byte (C i q)) (range_with_len 0 B.states) ≡ map tally_byte P
  unfolding C
  line_same P i e l =
      let g : P ≡ map (λ q. mark P q) (range_with_len 0 B.states) = fill_by_all (λ q. mark P q) P B.states 0 l (λ q hq. refl) in
      ap (λ (Q : Position). map (λ q. tally_byte (mark Q q)) (range_with_len 0 B.states)) e
      ∙ sym (map-map tally_byte (mark P) (range_with_len 0 B.states))
      ∙ ap (map tally_byte) (sym g)

  wf : WellFormed B K
  unfolding K
  wf = c.best.formed

  bytes_same : tallies k.found.positions ≡ cert B K k.found.count low wf C v
  unfolding K tallies
  bytes_same =
      let l : length k.found.positions ≡ length k.found.rows = c.best.shape.0 in
      sym (joined_counting (λ i. map (λ q. tally_byte (C i q)) (range_with_len 0 B.states)) (map tally_byte) k.found.positions 0 []
      (λ i j e hi. (let ij : i ≡ j = omega arith in
      line_same (get_or k.found.positions i []) j (ap (λ n. get_or k.found.positions n []) (sym ij)) (c.best.shape.1 (get_or k.found.positions i []) (in_getD k.found.positions i [] hi)))))
      ∙ ap (λ n. joined (λ i. map (λ q. tally_byte (C i q)) (range_with_len 0 B.states)) (range_with_len 0 n)) l

  file_same : file_of s k.found ≡ file B (rows_of B K) (cert B K k.found.count low wf C v) k.found.count
  file_same = ap (λ r. file B r (tallies k.found.positions) k.found.count) (sym rows_same) ∙ ap (λ t. file B (rows_of B K) t k.found.count) bytes_same

  file_checks : answer s (check (file_of s k.found)) ≡ accepted k.found.count
  unfolding K
  file_checks =
      let r : respond s (check (file_of s k.found)) ≡ record { sheet = s; answer = verdict (File.check B (file_of s k.found)) } = respond_is s (check (file_of s k.found)) h.looked in
      ap (λ (o : Outcome). o.answer) r
      ∙ ap (λ b. verdict (File.check B b)) file_same
      ∙ ap verdict (reads s h k.found.count low K (for_sheet s h K wf) few [] (cert B K k.found.count low wf C v) (cert_long B K k.found.count low wf C v) ∙ win_accepted B K k.found.count low wf C v)

  file_is : FileOf B (controller k.found.rows) k.found.count (file_of s k.found)
  unfolding K
  file_is =
      ([], cert B K k.found.count low wf C v, cert_long B K k.found.count low wf C v, cert_bytes B K k.found.count low wf C v, file_same)

written : (s : Sheet) → Sound s → AllKept s → WrittenAccepted s
written s h all buffer held n e = go (does s h.looked (write buffer)) e
  where
    go : {o : Outcome} → Does s (write buffer) o → o.answer ≡ wrote n held → Written s buffer held n
    go (write_none b g) a = let z : ◌≡◌ {A = ℕ} 0 1 = cc in absurd (omega arith)
    go (write_short b k g l) a = let z : ◌≡◌ {A = ℕ} 0 1 = cc in absurd (omega arith)
    go (writes b k g l) a =
        let bytes : List ℕ = file_of s k.found in
        let en : length bytes ≡ n = cc in
        let eh : bytes ++ drop (length bytes) buffer ≡ held = cc in
        let et : take n held ≡ bytes = ap (take n) (sym eh) ∙ take_at bytes (drop (length bytes) buffer) n en in
        record {
          stored = k;
          is_stored = g;
          file_of = subst (FileOf (rules s) (controller k.found.rows) k.found.count) (sym et) (file_is s h k (all k g));
          accepted = subst (λ b. answer s (check b) ≡ accepted k.found.count) (sym et) (file_checks s h k (all k g));
          within = omega (arith, en, l);
          later = sym eh ∙ subst₂ (λ b m. bytes ++ drop (length bytes) buffer ≡ b ++ drop m buffer) (sym et) en refl;
        }

pub written_stands : AfterCalls WrittenAccepted
written_stands house S C capacity e calls =
    written (run (opened house S C capacity) calls) (run_sound (opened house S C capacity) (opened_sound house S C capacity e) calls)
    (run_keeps calls (opened house S C capacity) (opened_sound house S C capacity e) (opened_keeps house S C capacity))
