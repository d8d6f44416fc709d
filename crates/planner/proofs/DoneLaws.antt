-- When a plan was written (`done`): the total answered is the chain's (`done_sum`); from the buffer, whose length is kept (`done_length`), the
-- chain is read (`done_decode`), its count and total (`done_count`, `done_field`) and its bytes (`done_bytes`). So the chain that is read is
-- the chosen one (`done_returned`), its bytes are priced at its total (`done_priced`), which is near its exact value (`done_near`), and no chain
-- is far below that (`done_far`). Assumes nothing.
use Prim.Native.Nat.{ℕ, ◌≤◌}
use mathlib.Core.Path.{◌≡◌, ap, sym, subst, ◌∙◌}
use mathlib.Core.List.{List}
use native.Mathlib.Omega.{arith}
use lib.ListN.{length, get_or, take}
use lib.Seq.{length-sets}
use Rattle.base.specs.Answer.{accepted}
use Rattle.base.specs.declared.Answer.{Answer}
use Rattle.base.proofs.StoreLaws.{written_behind}
use Rattle.sheet.specs.Sheet.{sheet_of}
use Rattle.checking.proofs.FitLaws.{fit}
use Rattle.chain.specs.Chain.{Chain, rounded_total}
use Rattle.chain.specs.ChosenChain.{ChosenChain}
use Rattle.chain.specs.PlanBytes.{plan_size, encode, total_field, count_field, decode, Narrow}
use Rattle.chain.proofs.FeasibleLaws.{narrow_of_feasible}
use Rattle.chain.proofs.TotalLaws.{rounded_total-lt}
use Rattle.chain.proofs.PlanBytesLaws.{encode-length}
use Rattle.chain.proofs.ReadLaws.{written_total, written_count, written_plan, written_decode}
use Rattle.chain.proofs.ChosenLaws.{chosen_chain-le, chosen_chain_only}
use Rattle.chain.proofs.ErrorOfChain.{total_near, chain_loss}
use Rattle.pricing.specs.Pricing.{priced}
use Rattle.pricing.proofs.PriceLaws.{priced-encode}
use Rattle.planning.specs.Planning.{found, plan_answer, plan_after}
use Rattle.planner.specs.Promises.{Returned, PricedAsPrinted, PrintedNear, NoneFarBelow}
use Rattle.planner.specs.Ways.{Done}
use Rattle.planner.proofs.WayLaws.{way, done_of}

module _ (s plan words : List ℕ) where
  pub done : (plan_answer s plan words).number ≡ 0 → Done s plan words
  done = done_of (way s plan words)

  module _ (d : Done s plan words) where
    abbrev chain : Chain
    chain = found (sheet_of s)

    abbrev units : ℕ
    units = rounded_total (sheet_of s) chain

    narrow : Narrow chain
    narrow = narrow_of_feasible (sheet_of s) (omega (arith, d.ready.passes.header.horizon.1)) chain d.chosen.feasible

    pub done_sum : (plan_answer s plan words).total ≡ units
    done_sum = ap (λ (a : Answer). a.total) d.answer

    pub done_decode : decode (plan_after s plan words) ≡ chain
    done_decode = ap decode d.written ∙ written_decode plan units chain d.room narrow

    pub done_count : count_field (plan_after s plan words) ≡ length chain.ends
    done_count = ap count_field d.written ∙ written_count plan units chain d.room narrow

    pub done_field : total_field (plan_after s plan words) ≡ units
    done_field =
        let small = rounded_total-lt (sheet_of s) (fit s d.ready.passes) chain d.chosen.feasible in
        ap total_field d.written ∙ written_total plan units chain d.room (omega arith)

    pub done_bytes : let after = plan_after s plan words in take (plan_size (count_field after)) after ≡ encode units chain
    done_bytes =
        ap (λ (l : List ℕ). take (plan_size (count_field l)) l) d.written ∙ written_plan plan units chain d.room narrow

    pub done_behind : (k : ℕ) → plan_size (count_field (plan_after s plan words)) ≤ k → get_or (plan_after s plan words) k 0 ≡ get_or plan k 0
    done_behind k l =
        ap (λ (l : List ℕ). get_or l k 0) d.written
        ∙ written_behind plan (encode units chain) (omega (arith, d.room, encode-length units chain)) k
        (omega (arith, encode-length units chain, done_count))

    pub done_length : length (plan_after s plan words) ≡ length plan
    done_length = ap length d.written ∙ length-sets plan 0 (encode units chain)

    -- the chain in the written plan is the chosen one, and the only one; its total is the one printed
    pub done_returned : Returned (sheet_of s) (plan_answer s plan words).total (plan_after s plan words)
    done_returned =
        record {
          whole = omega (arith, d.room, done_count, done_length);
          chosen = subst (ChosenChain (sheet_of s)) (sym done_decode) d.chosen;
          least = λ c h. rw done_sum (chosen_chain-le (sheet_of s) chain d.chosen c h);
          only = λ c h. chosen_chain_only (sheet_of s) c chain h d.chosen ∙ sym done_decode;
          sum = done_sum ∙ ap (rounded_total (sheet_of s)) (sym done_decode);
          field = done_field ∙ sym done_sum;
        }

    pub done_priced : PricedAsPrinted s 0 (plan_answer s plan words).total (plan_after s plan words)
    done_priced _ =
        ap (priced s) done_bytes ∙ priced-encode s d.ready.passes chain d.chosen.feasible _ ∙ ap accepted (sym done_sum)

    pub done_near : PrintedNear s 0 (plan_answer s plan words).total (plan_after s plan words)
    done_near _ = rw (done_decode, done_sum) (total_near (sheet_of s) (fit s d.ready.passes) chain d.chosen.feasible)

    pub done_far : NoneFarBelow s 0 (plan_after s plan words)
    done_far _ c h =
        let least = chosen_chain-le (sheet_of s) chain d.chosen c h in
        rw done_decode (omega (arith, chain_loss (sheet_of s) (fit s d.ready.passes) chain c d.chosen.feasible h least))
