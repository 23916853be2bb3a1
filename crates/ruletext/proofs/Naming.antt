-- A name, by how many of its bytes stand at the front.
use Rattle.std.proofs.Common.{◌≡◌, ℕ, zero, suc, ◌+◌, ◌≤◌, true, false, cond, eqb, List, [], ◌∷◌, length, take, drop, sym, refl, ap, ◌∙◌, subst, arith, length-take-le}
use Rattle.std.specs.List.{take_while}
use Rattle.std.proofs.lemmas.Bool.{eqb-true, eq-eqb, eqb-false, ne_eqb, and_from, le-leb}
use Rattle.std.proofs.lemmas.List.Sums.{take_while-cons}
use Rattle.model.specs.Lists.{every}
use Rattle.model.specs.Text.{Line, n_line, name_byte, good_name}
use Rattle.model.specs.Reading.{Part, part, wrong, ◌>>=◌, given, byte, name_rest, n_words}
use Rattle.model.proofs.Reading.Basics.{by_test, part_wrong, part_same, bind_part, bind_wrong}
use Rattle.model.proofs.Reading.Readers.{byte_yes}
use Rattle.model.proofs.Reading.Digits.{every_cons}
use Rattle.model.proofs.Reading.Names.{name_other, name_cases}

-- how many bytes of a name the list begins with, m at most
abbrev lead : ℕ → List ℕ → ℕ
lead m bs = length (take_while name_byte (take m bs))

lead_more : (m b : ℕ) (w : List ℕ) → name_byte b ≡ true → lead (suc m) (b ∷ w) ≡ suc (lead m w)
lead_more m b w t = ap length (take_while-cons name_byte b (take m w) ∙ ap (λ z. cond z (b ∷ take_while name_byte (take m w)) []) t)

lead_none : (m b : ℕ) (w : List ℕ) → name_byte b ≡ false → lead (suc m) (b ∷ w) ≡ 0
lead_none m b w t = ap length (take_while-cons name_byte b (take m w) ∙ ap (λ z. cond z (b ∷ take_while name_byte (take m w)) []) t)

-- they are bytes of a name, and m at most
pub record Leading (m : ℕ) (bs : List ℕ) : Type 0 where
  pub fine : every name_byte (take (lead m bs) bs) ≡ true
  pub few : lead m bs ≤ m
  pub inside : lead m bs ≤ length bs

none_leads : (m : ℕ) (bs : List ℕ) → lead m bs ≡ 0 → Leading m bs
none_leads m bs e = record { fine = ap (λ n. every name_byte (take n bs)) e; few = omega arith; inside = omega arith }

pub leading : (m : ℕ) (bs : List ℕ) → Leading m bs
leading zero bs = none_leads zero bs refl
leading (suc m) [] = none_leads (suc m) [] refl
leading (suc m) (b ∷ w) =
    by_test (name_byte b)
    (λ t.
    let ih = leading m w in
    let e = lead_more m b w t in
    let few = ih.few in
    let inside = ih.inside in
    record { fine = ap (λ n. every name_byte (take n (b ∷ w))) e ∙ every_cons name_byte b (take (lead m w) w) t ih.fine; few = omega arith; inside = omega arith })
    (λ t. none_leads (suc m) (b ∷ w) (lead_none m b w t))

-- these bytes, and the line end behind them
abbrev ended : List ℕ → Part ℕ → Part (List ℕ)
ended bs (part b j rest) = part bs j rest
ended bs (wrong j) = wrong j

ended_here : (k b : ℕ) (w : List ℕ) (o : Part (List ℕ)) → (eqb b 10 ≡ true → o ≡ part [] (suc k) w) → (eqb b 10 ≡ false → o ≡ wrong k) → o ≡ ended [] (byte (eqb 10) k (b ∷ w))
ended_here k b w o here other =
    by_test (eqb b 10)
    (λ t. let e = eq-eqb 10 b (sym (eqb-true b 10 t)) in let h = here t in cc)
    (λ t. let e = ne_eqb 10 b (λ s. eqb-false b 10 t (sym s)) in let h = other t in cc)

name_by_lead : (m i k : ℕ) (bs : List ℕ) → k ≡ i + lead m bs → name_rest m i bs ≡ ended (take (lead m bs) bs) (byte (eqb 10) k (drop (lead m bs) bs))
name_by_lead zero i k [] e = let s : i ≡ k = omega arith in ap wrong s
name_by_lead (suc m) i k [] e = let s : i ≡ k = omega arith in ap wrong s
name_by_lead zero i k (b ∷ w) e =
    let s : k ≡ i = omega arith in
    subst (λ z. name_rest zero i (b ∷ w) ≡ ended [] (byte (eqb 10) z (b ∷ w))) (sym s) (ended_here i b w (name_rest zero i (b ∷ w)) (λ t. cc) (λ t. cc))
name_by_lead (suc m) i k (b ∷ w) e =
    by_test (name_byte b)
    (λ t.
    let more = lead_more m b w t in
    let ih = name_by_lead m (suc i) k w (omega arith) in
    let o = byte (eqb 10) k (drop (lead m w) w) in
    subst (λ n. name_rest (suc m) i (b ∷ w) ≡ ended (take n (b ∷ w)) (byte (eqb 10) k (drop n (b ∷ w)))) (sym more)
    (name_cases m i b w t (λ es j rest a c. c ∙ one_more (take (lead m w) w) o es j rest (sym a ∙ ih)) (λ j a c. c ∙ none_more (take (lead m w) w) o j (sym a ∙ ih))))
    (λ t.
    let none = lead_none m b w t in
    let s : k ≡ i = omega arith in
    subst (λ n. name_rest (suc m) i (b ∷ w) ≡ ended (take n (b ∷ w)) (byte (eqb 10) k (drop n (b ∷ w)))) (sym none)
    (subst (λ z. name_rest (suc m) i (b ∷ w) ≡ ended [] (byte (eqb 10) z (b ∷ w))) (sym s)
    (ended_here i b w (name_rest (suc m) i (b ∷ w)) (λ u. cc) (λ u. name_other m i b w u t))))
  where
    one_more : (bs : List ℕ) (o : Part ℕ) (es : List ℕ) (j : ℕ) (rest : List ℕ) → part es j rest ≡ ended bs o → part (b ∷ es) j rest ≡ ended (b ∷ bs) o
    one_more bs (part c l r) es j rest q = let s = part_same q in cc
    one_more bs (wrong l) es j rest q = part_wrong q

    none_more : (bs : List ℕ) (o : Part ℕ) (j : ℕ) → wrong j ≡ ended bs o → wrong j ≡ ended (b ∷ bs) o
    none_more bs (part c l r) j q = part_wrong (sym q)
    none_more bs (wrong l) j q = q

-- THE WHOLE WORD

abbrev pub named : List ℕ → Part ℕ → Part Line
named bs (part b j rest) = part (n_line bs) j rest
named bs (wrong j) = wrong j

pub name_read : (i : ℕ) (bytes : List ℕ) (sp start : ℕ) (text : List ℕ) → byte (eqb 32) i bytes ≡ part sp start text → (n : ℕ) → n ≡ lead 8 text → (n ≡ 0 → ⊥)
    → (k : ℕ) (rest : List ℕ) → k ≡ start + n → rest ≡ drop n text → n_words i bytes ≡ named (take n text) (byte (eqb 10) k rest)
name_read i bytes sp start [] space n is some k rest e d = absurd (some is)
name_read i bytes sp start (b ∷ w) space n is some k rest e d =
    by_test (name_byte b)
    (λ t.
    let more : n ≡ suc (lead 7 w) = is ∙ lead_more 7 b w t in
    let here : rest ≡ drop (lead 7 w) w = d ∙ ap (λ z. drop z (b ∷ w)) more in
    let all = name_by_lead 7 (suc start) k w (omega arith) in
    go t (byte (eqb 10) k rest) (ap (λ z. byte (eqb 10) k z) here) (take (lead 7 w) w) all (take n (b ∷ w)) (ap (λ z. take z (b ∷ w)) more))
    (λ t. absurd (some (is ∙ lead_none 7 b w t)))
  where
    go : name_byte b ≡ true → (o : Part ℕ) → o ≡ byte (eqb 10) k (drop (lead 7 w) w) → (bs : List ℕ) → name_rest 7 (suc start) w ≡ ended bs (byte (eqb 10) k (drop (lead 7 w) w)) → (all : List ℕ) → all ≡ b ∷ bs → n_words i bytes ≡ named all o
    go t (part c j r) q bs h all a =
        bind_part (byte (eqb 32)) (λ s. ◌>>=◌ (byte name_byte) (λ c. ◌>>=◌ (name_rest 7) (λ cs. given (n_line (c ∷ cs))))) i bytes sp start (b ∷ w) (part (n_line all) j r) space
        (bind_part (byte name_byte) (λ c. ◌>>=◌ (name_rest 7) (λ cs. given (n_line (c ∷ cs)))) start (b ∷ w) b (suc start) w (part (n_line all) j r) (byte_yes name_byte start b w t)
        (bind_part (name_rest 7) (λ cs. given (n_line (b ∷ cs))) (suc start) w bs j r (part (n_line all) j r) (h ∙ ap (ended bs) (sym q)) (ap (λ z. part (n_line z) j r) (sym a))))
    go t (wrong j) q bs h all a =
        bind_part (byte (eqb 32)) (λ s. ◌>>=◌ (byte name_byte) (λ c. ◌>>=◌ (name_rest 7) (λ cs. given (n_line (c ∷ cs))))) i bytes sp start (b ∷ w) (wrong j) space
        (bind_part (byte name_byte) (λ c. ◌>>=◌ (name_rest 7) (λ cs. given (n_line (c ∷ cs)))) start (b ∷ w) b (suc start) w (wrong j) (byte_yes name_byte start b w t)
        (bind_wrong (name_rest 7) (λ cs. given (n_line (b ∷ cs))) (suc start) w j (h ∙ ap (ended bs) (sym q))))

pub name_good : (text : List ℕ) (n : ℕ) → n ≡ lead 8 text → (n ≡ 0 → ⊥) → good_name (take n text) ≡ true
name_good text n is some =
    let l = leading 8 text in
    let few = l.few in
    let inside = l.inside in
    let long : length (take n text) ≡ n = length-take-le n text (omega arith) in
    let fine : every name_byte (take n text) ≡ true = ap (λ z. every name_byte (take z text)) is ∙ l.fine in
    and_from _ _ (and_from _ _ (le-leb 1 (length (take n text)) (let s = some in omega arith)) (le-leb (length (take n text)) 8 (omega arith))) fine
