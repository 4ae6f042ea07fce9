-- The cases, shown by computing, over the cache layer on any store like Words and Packed.
use Rattle.std.proofs.Common.{ℕ, List, refl}
use Rattle.lock.specs.AnswerCases.{AnswerCases, OpenCases}
use Rattle.lock.specs.AloneCases.{AloneCases}
use Rattle.lock.specs.QuestionCases.{CheckCases, QuestionCases}
use Rattle.lock.specs.WaitingCases.{WaitingCases}
use Rattle.lock.proofs.Answering.{Store, stored}
use Rattle.lock.proofs.CaseRuns.{comes, comes_from}

module _ {S : Type 0} {limit : ℕ} {numbers : S → List ℕ} (u : Store limit numbers) where
  pub alone : AloneCases (stored limit numbers)
  alone =
      record {
        opened = comes u refl refl;
        reader = comes u refl (refl, refl, refl);
        reader_leaves = comes u refl ((refl, refl, refl), refl);
        upgraded = comes u refl ((refl, refl, refl), refl);
        upgraded_leaves = comes u refl ((refl, refl, refl), refl);
        writer = comes u refl ((refl, refl, refl), refl);
        writer_leaves = comes u refl ((refl, refl, refl), refl);
        downgraded = comes u refl ((refl, refl, refl), refl);
        downgraded_leaves = comes u refl ((refl, refl, refl), refl);
      }

  pub waiting : WaitingCases (stored limit numbers)
  waiting =
      record {
        before_swap = comes u refl ((refl, refl, refl), (refl, refl, refl));
        upgrade_first = comes u refl (refl, refl, refl);
        reader_waits = comes u refl ((refl, refl, refl), (refl, refl, refl));
        reader_comes_in = comes u refl (refl, refl, refl);
        reader_first = comes u refl (refl, refl, refl);
        turned_down_at_once = comes u refl (refl, refl, refl);
        turned_down_at_27p3 = comes u refl (refl, refl, refl);
        reader_after_writer_waits = comes u refl (refl, refl, refl);
        reader_after_writer = comes u refl (refl, refl, refl);
        writer_after_reader_waits = comes u refl (refl, refl, refl);
        writer_after_reader = comes u refl (refl, refl, refl);
        writer_after_writer_waits = comes u refl ((refl, refl, refl), refl);
        writer_after_writer = comes u refl ((refl, refl, refl), refl);
      }

  pub answers : AnswerCases (stored limit numbers)
  answers =
      record {
        shut = comes_from u refl refl;
        by_task = comes u refl ((refl, refl, refl), refl);
        by_pass = comes u refl ((refl, refl, refl), refl);
        by_writer = comes u refl refl;
        by_reader = comes u refl refl;
        damaged = comes u refl refl;
        finished = comes_from u refl ((refl, refl, refl), refl);
        upgrades_spent = comes_from u refl ((refl, refl, refl), refl);
      }

  pub questions : QuestionCases (stored limit numbers)
  questions =
      record {
        shut = comes_from u refl (((_, refl, refl), (_, refl, refl), (_, refl, refl)), (_, refl, refl), (_, refl, refl), (_, refl, refl));
        reader_costs_most = comes u refl ((refl, refl, refl), (refl, refl, refl), refl);
        writer_costs_most = comes u refl ((refl, refl, refl), (refl, refl, refl), refl);
        equal_costs = comes u refl refl;
        second_account = comes u refl (refl, refl, refl);
        cells = comes u refl (refl, (_, refl, refl));
        no_task = comes u refl (((_, refl, refl), (_, refl, refl), (_, refl, refl)), ((_, refl, refl), (_, refl, refl), (_, refl, refl)));
      }

pub opening : OpenCases
opening =
    record {
      opened = refl;
      no_roles = refl;
      roles_65 = refl;
      roles_64 = refl;
      role_X = refl;
      roles_15 = refl;
      roles_16 = refl;
      limit_1 = refl;
      ceiling_1000 = refl;
      ceiling_1001 = refl;
      queue_of_1 = refl;
    }

pub checks : CheckCases
checks =
    record {
      no_tasks = (_, refl, refl);
      tasks_65 = (_, refl, refl);
      tasks_64 = refl;
      greatest = refl;
      above_C = (_, refl, refl);
      above_D = (_, refl, refl);
      above_Gate = (_, refl, refl);
      above_X = (_, refl, refl);
      above_Permit = (_, refl, refl);
      above_U = (_, refl, refl);
      above_V = (_, refl, refl);
      reader_not_in_C = (_, refl, refl);
      writer_in_C = (_, refl, refl);
      beside_writer = (_, refl, refl);
      beside_downgrading = (_, refl, refl);
      beside_leaving = refl;
      two_upgrading = (_, refl, refl);
      upgraded_without_U = (_, refl, refl);
      U_without_upgraded = (_, refl, refl);
      writer_with_X = (_, refl, refl);
      writer_without_X = refl;
      lowest = (_, refl, refl);
    }
