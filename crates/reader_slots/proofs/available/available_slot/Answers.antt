use Rattle.std.proofs.Common.{rules, tests}
use Rattle.reader_slots.proofs.FindMap.{first_answer}
use Rattle.reader_slots.proofs.Words.{word_answers, by_words}
use Rattle.reader_slots.proofs.available.available_slot.Goals as goal

pub returns : goal.returns
returns c =
    let a = c.args in
    by_words a.n a.bitmap.now a.local_readers.now a.card.now _ (first_answer _ _ (word_answers a.n a.bitmap.now a.local_readers.now a.card.now) (λ x b q k. search (rules, tests)) _ _ c.find_map.ensures.runs)
