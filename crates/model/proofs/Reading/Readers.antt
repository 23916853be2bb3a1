-- What every reader of a line has in common: a part it gives is settled by the bytes it took, and where it stops, it could have gone
-- on before, and does not with the next byte, whatever follows.
use Rattle.std.proofs.Common.{◌≡◌, ℕ, suc, ◌+◌, ◌<◌, Bool, true, false, ◌⊎◌, List, [], ◌∷◌, ◌++◌, length, sym, refl, ap, ◌∙◌, inl, inr, ⊎_elim, append_assoc, append-nil, arith, length-append}
use Rattle.model.specs.Reading.{Part, part, wrong, Reader, ◌>>=◌, given, byte}
use Rattle.model.proofs.Reading.Basics.{by_test, part_wrong, wrong_same, part_same, bind_part, bind_wrong, bind_cases}

pub record Takes {X : Type 0} (f : Reader X) (i : ℕ) (bytes : List ℕ) (x : X) (j : ℕ) (rest : List ℕ) : Type 0 where
  pub eaten : List ℕ
  pub split : bytes ≡ eaten ++ rest
  pub count : j ≡ i + length eaten
  pub again : (w : List ℕ) → f i (eaten ++ w) ≡ part x j w

pub record Stops {X : Type 0} (f : Reader X) (i : ℕ) (bytes : List ℕ) (j : ℕ) : Type 0 where
  pub front : List ℕ
  pub back : List ℕ
  pub split : bytes ≡ front ++ back
  pub count : j ≡ i + length front
  pub more : List ℕ  -- what could follow
  pub some_more : 0 < length more
  pub value : X
  pub place : ℕ
  pub goes : f i (front ++ more) ≡ part value place []
  pub halts : (back ≡ []) ⊎ ((b : ℕ) × (q : List ℕ) × (back ≡ b ∷ q) × ((s : List ℕ) → f i (front ++ (b ∷ s)) ≡ wrong j))

pub record Proper {X : Type 0} (f : Reader X) : Type 0 where
  pub takes : (i : ℕ) (bytes : List ℕ) (x : X) (j : ℕ) (rest : List ℕ) → f i bytes ≡ part x j rest → Takes f i bytes x j rest
  pub stops : (i : ℕ) (bytes : List ℕ) (j : ℕ) → f i bytes ≡ wrong j → Stops f i bytes j

-- some bytes that the reader takes whole
pub record Word {X : Type 0} (f : Reader X) (i : ℕ) : Type 0 where
  pub bytes : List ℕ
  pub value : X
  pub place : ℕ
  pub reads : f i bytes ≡ part value place []

pub some_word : {X : Type 0} (f : Reader X) → Proper f → (i : ℕ) → Word f i
some_word {X} f p i = go (f i []) refl
  where
    go : (o : Part X) → f i [] ≡ o → Word f i
    go (part x j rest) e = let t = p.takes i [] x j rest e in record { bytes = t.eaten ++ []; value = x; place = j; reads = t.again [] }
    go (wrong j) e = let s = p.stops i [] j e in record { bytes = s.front ++ s.more; value = s.value; place = s.place; reads = s.goes }

pub given_proper : {X : Type 0} (x : X) → Proper (given x)
given_proper x =
    record {
      takes = λ i bytes y j rest e. let s = part_same e in record { eaten = []; split = s.behind; count = omega (arith, s.place); again = λ w. ap (λ v. part v i w) s.value ∙ ap (λ k. part y k w) s.place };
      stops = λ i bytes j e. part_wrong e;
    }

module _ (test : ℕ → Bool) where
  pub byte_yes : (i b : ℕ) (rest : List ℕ) → test b ≡ true → byte test i (b ∷ rest) ≡ part b (suc i) rest
  byte_yes i b rest e = rw (e, byte)

  pub byte_no : (i b : ℕ) (rest : List ℕ) → test b ≡ false → byte test i (b ∷ rest) ≡ wrong i
  byte_no i b rest e = rw (e, byte)

  -- one byte of the bytes passed
  pub record Byte (i : ℕ) (bytes : List ℕ) (x j : ℕ) (rest : List ℕ) : Type 0 where
    pub passed : test x ≡ true
    pub split : bytes ≡ x ∷ rest
    pub count : j ≡ suc i

  pub byte_takes : (i : ℕ) (bytes : List ℕ) (x j : ℕ) (rest : List ℕ) → byte test i bytes ≡ part x j rest → Byte i bytes x j rest
  byte_takes i [] x j rest e = part_wrong (sym e)
  byte_takes i (b ∷ bs) x j rest e =
      by_test (test b)
      (λ t.
      let s = part_same (sym (byte_yes i b bs t) ∙ e) in
      record { passed = cc; split = cc; count = omega (arith, s.place) })
      (λ t. part_wrong (sym e ∙ byte_no i b bs t))

  pub byte_proper : (b : ℕ) → test b ≡ true → Proper (byte test)
  byte_proper b₀ ok =
      record {
        takes = λ i bytes x j rest e.
            let s = byte_takes i bytes x j rest e in
            record { eaten = x ∷ []; split = s.split; count = omega (arith, s.count); again = λ w. byte_yes i x w s.passed ∙ ap (λ k. part x k w) (sym s.count) };
        stops = stop;
      }
    where
      stop : (i : ℕ) (bytes : List ℕ) (j : ℕ) → byte test i bytes ≡ wrong j → Stops (byte test) i bytes j
      stop i [] j e =
          let s = wrong_same e in
          record {
            front = [];
            back = [];
            split = refl;
            count = omega (arith, s);
            more = b₀ ∷ [];
            some_more = omega arith;
            value = b₀;
            place = suc i;
            goes = byte_yes i b₀ [] ok;
            halts = inl refl;
          }
      stop i (b ∷ bs) j e =
          by_test (test b)
          (λ t. part_wrong (sym (byte_yes i b bs t) ∙ e))
          (λ t.
          let s = wrong_same (sym (byte_no i b bs t) ∙ e) in
          record {
            front = [];
            back = b ∷ bs;
            split = refl;
            count = omega (arith, s);
            more = b₀ ∷ [];
            some_more = omega arith;
            value = b₀;
            place = suc i;
            goes = byte_yes i b₀ [] ok;
            halts = inr (b, bs, refl, λ r. byte_no i b r t ∙ ap wrong s);
          })

module _ {X Y : Type 0} (f : Reader X) (g : X → Reader Y) (pf : Proper f) (pg : (x : X) → Proper (g x)) where
  bind_takes : (i : ℕ) (bytes : List ℕ) (y : Y) (k : ℕ) (rest : List ℕ) → ◌>>=◌ f g i bytes ≡ part y k rest → Takes (◌>>=◌ f g) i bytes y k rest
  bind_takes i bytes y k rest e =
      bind_cases f g i bytes
      (λ x j mid d c.
      let t = pf.takes i bytes x j mid d in
      let u = (pg x).takes j mid y k rest (sym c ∙ e) in
      record {
        eaten = t.eaten ++ u.eaten;
        split = t.split ∙ ap (λ z. t.eaten ++ z) u.split ∙ sym (append_assoc t.eaten u.eaten rest);
        count = omega (arith, t.count, u.count, length-append t.eaten u.eaten);
        again = λ w. ap (λ z. ◌>>=◌ f g i z) (append_assoc t.eaten u.eaten w) ∙ bind_part f g i (t.eaten ++ (u.eaten ++ w)) x j (u.eaten ++ w) (part y k w) (t.again (u.eaten ++ w)) (u.again w);
      })
      (λ j d c. part_wrong (sym e ∙ c))

  bind_stops : (i : ℕ) (bytes : List ℕ) (k : ℕ) → ◌>>=◌ f g i bytes ≡ wrong k → Stops (◌>>=◌ f g) i bytes k
  bind_stops i bytes k e =
      bind_cases f g i bytes
      (λ x j mid d c.
      let t = pf.takes i bytes x j mid d in
      let u = (pg x).stops j mid k (sym c ∙ e) in
      let along : (w : List ℕ) (o : Part Y) → g x j (u.front ++ w) ≡ o → ◌>>=◌ f g i ((t.eaten ++ u.front) ++ w) ≡ o =
      λ w o h. ap (λ z. ◌>>=◌ f g i z) (append_assoc t.eaten u.front w) ∙ bind_part f g i (t.eaten ++ (u.front ++ w)) x j (u.front ++ w) o (t.again (u.front ++ w)) h in
      record {
        front = t.eaten ++ u.front;
        back = u.back;
        split = t.split ∙ ap (λ z. t.eaten ++ z) u.split ∙ sym (append_assoc t.eaten u.front u.back);
        count = omega (arith, t.count, u.count, length-append t.eaten u.front);
        more = u.more;
        some_more = u.some_more;
        value = u.value;
        place = u.place;
        goes = along u.more (part u.value u.place []) u.goes;
        halts = ⊎_elim (λ h. inl h) (λ h. inr (h.0, h.1, h.2, λ s. along (h.0 ∷ s) (wrong k) (h.3 s))) u.halts;
      })
      (λ j d c.
      let same : j ≡ k = wrong_same (sym c ∙ e) in
      let u = pf.stops i bytes j d in
      let t = pf.takes i (u.front ++ u.more) u.value u.place [] u.goes in
      let v = some_word (g u.value) (pg u.value) u.place in
      let whole : u.front ++ (u.more ++ v.bytes) ≡ t.eaten ++ v.bytes =
      sym (append_assoc u.front u.more v.bytes) ∙ ap (λ z. z ++ v.bytes) (t.split ∙ append-nil t.eaten) in
      record {
        front = u.front;
        back = u.back;
        split = u.split;
        count = omega (arith, u.count, same);
        more = u.more ++ v.bytes;
        some_more = omega (arith, u.some_more, length-append u.more v.bytes);
        value = v.value;
        place = v.place;
        goes = ap (λ z. ◌>>=◌ f g i z) whole ∙ bind_part f g i (t.eaten ++ v.bytes) u.value u.place v.bytes (part v.value v.place []) (t.again v.bytes) v.reads;
        halts = ⊎_elim (λ h. inl h) (λ h. inr (h.0, h.1, h.2, λ s. bind_wrong f g i (u.front ++ (h.0 ∷ s)) j (h.3 s) ∙ ap wrong same)) u.halts;
      })

  pub bind_proper : Proper (◌>>=◌ f g)
  bind_proper = record { takes = bind_takes; stops = bind_stops }
