-- The words of a line are words exactly if their sentence says so.
use Rattle.std.proofs.Common.{ℕ, ◌<◌, ◌≤◌, ◌&&◌, ◌||◌, leb, List, length, Decides, refl}
use Rattle.std.proofs.lemmas.Bool.{leb-true, le-leb, and_parts, and_from}
use Rattle.std.proofs.lemmas.Bool.Decides.{Decides-and, Decides-or, Decides-ltb}
use Rattle.model.specs.Lists.{every, In}
use Rattle.model.specs.Text.{Choice, one, each, n_line, s_line, r_line, t_line, between, digit_byte, name_byte, one_digit, good_choice}
use Rattle.model.specs.ReadingLaws.{NameByte, Below, CorrectExact}
use Rattle.model.proofs.Lists.{decides_every}

between_decides : (low high b : ℕ) → Decides (between low high b) ((low ≤ b) × (b ≤ high))
between_decides low high b = Decides-and (leb low b) (leb b high) (leb-true low b, le-leb low b) (leb-true b high, le-leb b high)

byte_decides : (b : ℕ) → Decides (name_byte b) (NameByte b)
byte_decides b =
    Decides-or (digit_byte b) (between 65 90 b || between 97 122 b) (between_decides 48 57 b)
    (Decides-or (between 65 90 b) (between 97 122 b) (between_decides 65 90 b) (between_decides 97 122 b))

digit_decides : (d : ℕ) → Decides (one_digit d) (d < 10)
digit_decides d = Decides-ltb d 10

choice_decides : (u : Choice) → Decides (good_choice u) (Below 10 u)
choice_decides (one d) = digit_decides d
choice_decides each = (λ e. tt, λ h. refl)

digits_decide : (qs : List ℕ) → Decides (every one_digit qs) ((q : ℕ) → In qs q → q < 10)
digits_decide qs = decides_every one_digit (λ q. q < 10) digit_decides qs

pub correct_exact : CorrectExact
correct_exact (n_line name) = (
  (λ e.
      let (a, b) = and_parts (between 1 8 (length name)) (every name_byte name) e in
      let (low, high) = (between_decides 1 8 (length name)).0 a in
      (low, high, (decides_every name_byte NameByte byte_decides name).0 b)),
  λ h. and_from (between 1 8 (length name)) (every name_byte name) ((between_decides 1 8 (length name)).1 (h.0, h.1)) ((decides_every name_byte NameByte byte_decides name).1 h.2),
)
correct_exact (s_line n q) = Decides-and (one_digit n) (one_digit q) (digit_decides n) (digit_decides q)
correct_exact (r_line qs) = digits_decide qs
correct_exact (t_line a) = (
  (λ e.
      let (f, rest) = and_parts (one_digit a.from) (good_choice a.command && (good_choice a.situation && every one_digit a.to)) e in
      let (c, more) = and_parts (good_choice a.command) (good_choice a.situation && every one_digit a.to) rest in
      let (x, to) = and_parts (good_choice a.situation) (every one_digit a.to) more in
      ((digit_decides a.from).0 f, (choice_decides a.command).0 c, (choice_decides a.situation).0 x, (digits_decide a.to).0 to)),
  λ h. and_from (one_digit a.from) (good_choice a.command && (good_choice a.situation && every one_digit a.to)) ((digit_decides a.from).1 h.0)
      (and_from (good_choice a.command) (good_choice a.situation && every one_digit a.to) ((choice_decides a.command).1 h.1)
      (and_from (good_choice a.situation) (every one_digit a.to) ((choice_decides a.situation).1 h.2) ((digits_decide a.to).1 h.3))),
)
