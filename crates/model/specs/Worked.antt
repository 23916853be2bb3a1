-- Sheets worked through, as one table: how each is opened, the calls, and what they answer.
use Rattle.std.specs.Prelude.{◌≡◌, ℕ, List, [], ◌∷◌, ◌++◌, map, replicate}
use Rattle.model.specs.Automaton.{Automaton}
use Rattle.model.specs.Rules.{free, reply}
use Rattle.model.specs.Reading.{rule_left}
use Rattle.model.specs.File.{place}
use Rattle.model.specs.Sheet.{opened, replies, Call, add, withdraw, limit, solve, frame, write, check, Answer, done, count, command, wrote, accepted, refused}
use Rattle.model.specs.declared.refusal.Refusal.TheVariants.{NoneFound, Crowded, Certificate}

-- two situations and two commands; limit 14 until a call sets another
pub record Worked : Type 0 where
  pub house : Automaton
  pub capacity : ℕ
  pub calls : List Call
  pub expected : List Answer

abbrev pub given : Worked → List Answer
given w = replies (opened w.house 2 2 w.capacity) w.calls

abbrev pub worked : Automaton → ℕ → List Call → List Answer → Worked
worked house capacity calls expected = record { house = house; capacity = capacity; calls = calls; expected = expected }

abbrev pub Reply : Automaton
Reply = reply 2 2 1 1

abbrev pub Free : Automaton
Free = free 2 2

-- the file of the first sheet: by the command of state 1, the last certificate byte, and the trailer's c
abbrev pub reply_file : ℕ → ℕ → ℕ → List ℕ
reply_file command1 last c =
    0x00 ∷ 0x00 ∷ 0x00 ∷ 0x01 ∷ 0x00
    ∷ command1 ∷ 0x00 ∷ 0x00 ∷ 0x01 ∷ 0x00
    ∷ 0x00 ∷ 0xFF ∷ 0x00 ∷ last
    ∷ 0x54 ∷ 0x54 ∷ 0x43 ∷ 0x31 ∷ 0x0E ∷ 0x00 ∷ 0x00 ∷ 0x00 ∷ 0x04 ∷ 0x00 ∷ 0x00 ∷ 0x00
    ∷ 0x02 ∷ 0x00 ∷ 0x02 ∷ 0x02 ∷ 0x02 ∷ c ∷ 0x00 ∷ 0x00 ∷ []

-- n reply / s 2 0 / r 1 / t 0 * * 0 / t 0 * 1 1 / t 1 0 * 1
abbrev pub reply_text : List ℕ
reply_text = 110 ∷ 32 ∷ 114 ∷ 101 ∷ 112 ∷ 108 ∷ 121 ∷ 10 ∷ 115 ∷ 32 ∷ 50 ∷ 32 ∷ 48 ∷ 10 ∷ 114 ∷ 32 ∷ 49 ∷ 10 ∷ 116 ∷ 32 ∷ 48 ∷ 32 ∷ 42 ∷ 32 ∷ 42 ∷ 32 ∷ 48 ∷ 10 ∷ 116 ∷ 32 ∷ 48 ∷ 32 ∷ 42 ∷ 32 ∷ 49 ∷ 32 ∷ 49 ∷ 10 ∷ 116 ∷ 32 ∷ 49 ∷ 32 ∷ 48 ∷ 32 ∷ 42 ∷ 32 ∷ 49 ∷ 10 ∷ []

-- n still / s 3 0 / r 2 / t 0 * * 0 / t 0 * 1 1 / t 1 1 * 2 / t 2 * * 2
abbrev pub still_text : List ℕ
still_text = 110 ∷ 32 ∷ 115 ∷ 116 ∷ 105 ∷ 108 ∷ 108 ∷ 10 ∷ 115 ∷ 32 ∷ 51 ∷ 32 ∷ 48 ∷ 10 ∷ 114 ∷ 32 ∷ 50 ∷ 10 ∷ 116 ∷ 32 ∷ 48 ∷ 32 ∷ 42 ∷ 32 ∷ 42 ∷ 32 ∷ 48 ∷ 10 ∷ 116 ∷ 32 ∷ 48 ∷ 32 ∷ 42 ∷ 32 ∷ 49 ∷ 32 ∷ 49 ∷ 10 ∷ 116 ∷ 32 ∷ 49 ∷ 32 ∷ 49 ∷ 32 ∷ 42 ∷ 32 ∷ 50 ∷ 10 ∷ 116 ∷ 32 ∷ 50 ∷ 32 ∷ 42 ∷ 32 ∷ 42 ∷ 32 ∷ 50 ∷ 10 ∷ []

-- STILL
abbrev pub still_name : List ℕ
still_name = 83 ∷ 84 ∷ 73 ∷ 76 ∷ 76 ∷ []

abbrev pub table : List Worked
table =
    worked Reply 64 (solve ∷ write (replicate 36 0xEE) ∷ []) (count 1 2 0 ∷ wrote 34 (reply_file 1 1 1 ++ (0xEE ∷ 0xEE ∷ [])) ∷ [])
    ∷ worked Reply 64 (solve ∷ frame 1 ∷ frame 1 ∷ frame 0 ∷ frame 0 ∷ []) (count 1 2 0 ∷ command 1 ∷ command 1 ∷ command 0 ∷ command 0 ∷ [])
    ∷ worked Reply 64 (limit 0 ∷ solve ∷ []) (done ∷ refused NoneFound ∷ [])
    ∷ worked Reply 1 (solve ∷ []) (refused Crowded ∷ [])
    ∷ worked Reply 2 (solve ∷ []) (count 1 2 0 ∷ [])
    ∷ worked Reply 1 (limit 0 ∷ solve ∷ []) (done ∷ refused NoneFound ∷ [])
    ∷ worked Free 64 (solve ∷ []) (count 0 1 0 ∷ [])
    ∷ worked Free 64 (solve ∷ frame 0 ∷ frame 1 ∷ []) (count 0 1 0 ∷ command 0 ∷ command 0 ∷ [])
    ∷ worked Free 64 (add (rule_left 2 2 reply_text) ∷ solve ∷ []) (done ∷ count 1 2 0 ∷ [])
    ∷ worked Reply 1024 (add (rule_left 2 2 still_text) ∷ limit 2 ∷ solve ∷ []) (done ∷ done ∷ refused NoneFound ∷ [])
    ∷ worked Reply 1024 (add (rule_left 2 2 still_text) ∷ limit 2 ∷ solve ∷ withdraw still_name ∷ solve ∷ []) (done ∷ done ∷ refused NoneFound ∷ done ∷ count 1 2 0 ∷ [])
    ∷ worked Reply 64 (check (reply_file 1 0 1) ∷ check (reply_file 1 1 2) ∷ []) (refused (Certificate (place 0 1 0 1)) ∷ accepted 2 ∷ [])
    ∷ worked Reply 64 (check (reply_file 0 1 1) ∷ []) (refused (Certificate (place 1 0 1 1)) ∷ [])
    ∷ []

-- every sheet answers as expected
abbrev pub WorkedSheetsHold : Type 0
WorkedSheetsHold = map given table ≡ map (λ (w : Worked). w.expected) table
