-- With nothing pending every ledger begins anew.
use Rattle.std.proofs.Common.{◌≡◌, ℕ, ◌*◌, ◌<◌, ◌≤◌, Bool, true, false, cond, refl, arith}
use Rattle.table.proofs.Sums.{sum_zeros}
use Rattle.runs.proofs.Machine.{Table, State, Idles}
use Rattle.runs.proofs.Machine.{idle}
use Rattle.runs.proofs.Ledgers.{Low, High, Inv, capped_same, loaded_same}
use Rattle.runs.proofs.LowKeeps.{idle≢live, low_fresh}
use Rattle.runs.proofs.HighKeeps.{high_fresh}

none_of : (b : Bool) (w L : ℕ) → L ≡ 0 → cond b (w * L) 0 ≡ 0
none_of true w L e = rw e (omega arith)
none_of false w L e = refl

small_of : (b : Bool) (L C g : ℕ) → L ≡ 0 → cond b L g ≤ cond b C g
small_of true L C g e = omega arith
small_of false L C g e = omega arith

-- nothing is pending
module _ (P : Table) (s : State) (empty : (i : ℕ) → i < P.n → s.job i ≡ idle) where
  pub empty_lows : (V : ℕ) → Low P s V
  empty_lows V = low_fresh P s V (λ i r u l e h. idle≢live r u (empty i l) e)

  pub empty_highs : (d : ℕ) → s.clock ≤ d → High P s d
  empty_highs d td = high_fresh P s d td (λ i r u l e h. idle≢live r u (empty i l) e)

  pub empty_inv : ((i : ℕ) → i < P.n → s.longest i ≡ 0) → Inv P s
  empty_inv zeros = record {
    facts = record {
      jobs = λ i r u l e. absurd (idle≢live r u (empty i l) e);
      capped = λ i l. small_of (P.isHigh i) (s.longest i) (P.C i) (P.g i) (zeros i l);
      loaded = omega (arith, sum_zeros P.n _ (λ i l. none_of (P.isHigh i) (P.w i) (s.longest i) (zeros i l)));
    };
    lows = λ _. empty_lows;
    highs = λ _. empty_highs;
  }

pub idle_inv : (P : Table) (s s' : State) → Idles P s s' → Inv P s → Inv P s'
idle_inv P s s' h inv = record {
  facts = record {
    jobs = λ i r u l e. absurd (idle≢live r u (h.job' i l) e);
    capped = capped_same P s s' h.longest' inv.facts;
    loaded = loaded_same P s s' h.longest' inv.facts;
  };
  lows = λ _. empty_lows P s' h.job';
  highs = λ _. empty_highs P s' h.job';
}
