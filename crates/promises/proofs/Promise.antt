-- THE PROMISES of specs/Promise.antt, kept: one term, which `promises::kept` asks for, made of one for each of the records, in a file of
-- the record's name. Those of the scheme are proved in the crate grid, those of keys as bytes in the crate keys, those of the calls and the
-- marked deals here. Assumes nothing.
use Rattle.promises.specs.Promise.{Promises}
use Rattle.promises.proofs.Demand1.{demand_1}
use Rattle.promises.proofs.Demand2.{demand_2}
use Rattle.promises.proofs.Demand3.{demand_3}
use Rattle.promises.proofs.OfTheCalls.{of_the_calls}
use Rattle.promises.proofs.RestsOn.{rests_on}
use Rattle.promises.proofs.BadArrays.{bad_arrays}
use Rattle.promises.proofs.Expansion.{expansion}
use Rattle.promises.proofs.CardDraw.{card_draw}
use Rattle.promises.proofs.BoardPage.{board_page}
use Rattle.promises.proofs.ChooseWidth.{choose_width}
use Rattle.promises.proofs.PrintedNumbers.{printed_numbers}
use Rattle.promises.proofs.Document03.{document_03}

pub promises : Promises
promises =
    record {
      demand_1 = demand_1;
      demand_2 = demand_2;
      demand_3 = demand_3;
      of_the_calls = of_the_calls;
      rests_on = rests_on;
      bad_arrays = bad_arrays;
      expansion = expansion;
      card_draw = card_draw;
      board_page = board_page;
      choose_width = choose_width;
      printed_numbers = printed_numbers;
      document_03 = document_03;
    }
