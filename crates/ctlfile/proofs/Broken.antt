-- The three looks at a certificate, one after the other, and the look through a window. Assumes nothing.
use Rattle.std.proofs.Common.{◌≡◌, ℕ, Bool, true, false, length, Some, None, Ok, Err, Option as Maybe, sym, refl, ap, ◌∙◌, arith}
use mathlib.Core.Option.{Option, none, some}
use Rattle.model.specs.declared.refusal.Place.{Place}
use Rattle.model.specs.declared.refusal.Refusal.TheVariants.{Record, Certificate}
use Rattle.model.specs.Automaton.{Automaton}
use Rattle.model.specs.Lists.{every, first}
use Rattle.model.specs.File as File
use Rattle.model.specs.File.{good_row, bad_byte, bad_start, bad_arrow, first_broken, look_through}
use Rattle.ctlfile.specs.declared.window.Window.{Window}
use Rattle.ctlfile.specs.Windows.{showing, shown, For, told, byte_places_in, byte_places_to, arrow_places_to}
use Rattle.ctlfile.proofs.Firsts.{told_none, told_some}
use Rattle.ctlfile.proofs.Showing.{rows_count}

-- the first that is found
abbrev found_first : Option Place → Option Place → Option Place → Option Place
found_first a b c = elim a [ some at ↦ some at | none ↦ elim b [ some at ↦ some at | none ↦ c ] ]

at_first : (a b c : Option Place) (p : Place) → Some p ≡ told a → Some p ≡ told (found_first a b c)
at_first none b c p e = let z : ◌≡◌ {A = ℕ} 0 1 = cc in absurd (omega arith)
at_first (some at) b c p e = e

at_second : (a b c : Option Place) (p : Place) → None ≡ told a → Some p ≡ told b → Some p ≡ told (found_first a b c)
at_second (some at) b c p n e = let z : ◌≡◌ {A = ℕ} 0 1 = cc in absurd (omega arith)
at_second none none c p n e = let z : ◌≡◌ {A = ℕ} 0 1 = cc in absurd (omega arith)
at_second none (some at) c p n e = e

at_third : (a b c : Option Place) (r : Maybe Place) → None ≡ told a → None ≡ told b → r ≡ told c → r ≡ told (found_first a b c)
at_third (some at) b c r n m e = let z : ◌≡◌ {A = ℕ} 0 1 = cc in absurd (omega arith)
at_third none (some at) c r n m e = let z : ◌≡◌ {A = ℕ} 0 1 = cc in absurd (omega arith)
at_third none none c r n m e = e

module _ (A : Automaton) (w : Window) (fits : For A w) where
  abbrev bytes : Option Place
  bytes = first (bad_byte (shown w)) (byte_places_to w.rule_states w.states)

  abbrev starts : Option Place
  starts = first (bad_start A (shown w)) (byte_places_in w.rule_states 0)

  abbrev arrows : Option Place
  arrows = first (bad_arrow A (shown w)) (arrow_places_to w.situations w.rule_states w.states)

  broken_is : found_first bytes starts arrows ≡ first_broken A (shown w)
  unfolding first_broken
  broken_is =
      let m : length (shown w).rows ≡ w.states = rows_count w.states w.situations w.rule_states w.count w.records.now w.certificate.now in
      λ i. found_first
      (first (bad_byte (shown w)) (byte_places_to (fits.states i) (sym m i)))
      (first (bad_start A (shown w)) (byte_places_in (fits.states i) 0))
      (first (bad_arrow A (shown w)) (arrow_places_to (fits.situations i) (fits.states i) (sym m i)))

  pub broken_byte : (p : Place) → Some p ≡ told bytes → Some p ≡ told (first_broken A (shown w))
  broken_byte p e = at_first bytes starts arrows p e ∙ ap {B = Maybe Place} told broken_is

  pub broken_start : (p : Place) → None ≡ told bytes → Some p ≡ told starts → Some p ≡ told (first_broken A (shown w))
  broken_start p n e = at_second bytes starts arrows p n e ∙ ap {B = Maybe Place} told broken_is

  pub broken_arrow : (r : Maybe Place) → None ≡ told bytes → None ≡ told starts → r ≡ told arrows → r ≡ told (first_broken A (shown w))
  broken_arrow r n m e = at_third bytes starts arrows r n m e ∙ ap {B = Maybe Place} told broken_is

-- THE LOOK THROUGH

module _ (A : Automaton) (w : File.Window) where
  abbrev records_test : Bool
  records_test = every (good_row A (length w.rows)) w.rows

  pub not_records : records_test ≡ false → look_through A w ≡ Err Record
  unfolding look_through
  not_records g = rw (g, look_through)

  pub broken : (p : Place) → records_test ≡ true → Some p ≡ told (first_broken A w) → look_through A w ≡ Err (Certificate p)
  unfolding look_through
  broken p g e = let b : first_broken A w ≡ some p = told_some (first_broken A w) p e in rw (g, b, look_through)

  pub whole : records_test ≡ true → None ≡ told (first_broken A w) → look_through A w ≡ Ok w.count
  unfolding look_through
  whole g e = let b : first_broken A w ≡ none = told_none (first_broken A w) e in rw (g, b, look_through)

pub count_shown : (w : Window) → (shown w).count ≡ w.count
unfolding showing
count_shown w = refl
