-- A controller and its table have the same paths.
use Rattle.std.proofs.Common.{◌≡◌, ℕ, ◌+◌, ◌<◌, sym, subst, arith}
use Rattle.model.specs.Automaton.{Automaton, Controller, weight, Follows, WellFormed, Path, begin, onward}
use Rattle.model.proofs.Paths.{path_inside}

-- K' does what K does, below K's size
pub record Agree (A : Automaton) (K K' : Controller) : Type 0 where
  pub size : K'.size ≡ K.size
  pub command : (s : ℕ) → s < K.size → K'.command s ≡ K.command s
  pub next : (s x : ℕ) → s < K.size → x < A.situations → K'.next s x ≡ K.next s x

module _ (A : Automaton) (K K' : Controller) (wf : WellFormed A K) (same : Agree A K K') where
  pub moved : {s q t : ℕ} → Path A K s q t → Path A K' s q t
  moved (begin b) = begin b
  moved (onward {s} {q} {t} x p w f) =
      let hs : s < K.size = (path_inside A K wf w).0 in
      subst (λ i. Path A K' i p (t + weight A p)) (same.next s x hs f.known)
      (onward x p (moved w) (subst (λ u. Follows A q u x p) (sym (same.command s hs)) f))

  pub formed : WellFormed A K'
  formed =
      record {
        some_state = omega (arith, same.size, wf.some_state);
        commands = λ s h. (let hs : s < K.size = omega (arith, same.size) in omega (arith, same.command s hs, wf.commands s hs));
        nexts = λ s x h hx. (let hs : s < K.size = omega (arith, same.size) in omega (arith, same.size, same.next s x hs hx, wf.nexts s x hs hx));
      }

  pub back : Agree A K' K
  back =
      record {
        size = sym same.size;
        command = λ s h. sym (same.command s (omega (arith, same.size)));
        next = λ s x h hx. sym (same.next s x (omega (arith, same.size)) hx);
      }
