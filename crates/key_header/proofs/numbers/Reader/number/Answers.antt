-- `key_header::numbers::Reader::number` meets its contract: each way out is a law of Reading, and every sum fits. Assumes nothing.
use Rattle.key_header.proofs.Reading.{broken_past, one_group, zero_second, two_groups, zero_third, three_groups, four_groups}
use Rattle.key_header.proofs.numbers.Reader.number.Goals as goal

pub returns-then-third-lt128 : goal.returns-then-third-lt128
returns-then-third-lt128 c =
    three_groups _ _ _ c.if-bytes-at.false c.byte-first.ensures _ c.if-first-lt128.false c.byte-second.ensures
    _ c.if-second-lt128.false c.byte-third.ensures c.if-third-eq0.false c.if-third-lt128.true

pub returns-then-bytes-at : goal.returns-then-bytes-at
returns-then-bytes-at c = broken_past _ _ c.if-bytes-at.true

pub returns-then-first-lt128 : goal.returns-then-first-lt128
returns-then-first-lt128 c =
    one_group _ _ _ c.if-bytes-at.false c.byte-first.ensures c.if-first-lt128.true

pub returns-then-second-eq0 : goal.returns-then-second-eq0
returns-then-second-eq0 c =
    zero_second _ _ _ c.if-bytes-at.false c.byte-first.ensures _ c.if-first-lt128.false c.byte-second.ensures c.if-second-eq0.true

pub returns-then-second-lt128 : goal.returns-then-second-lt128
returns-then-second-lt128 c =
    two_groups _ _ _ c.if-bytes-at.false c.byte-first.ensures _ c.if-first-lt128.false c.byte-second.ensures
    c.if-second-eq0.false c.if-second-lt128.true

pub returns-then-third-eq0 : goal.returns-then-third-eq0
returns-then-third-eq0 c =
    zero_third _ _ _ c.if-bytes-at.false c.byte-first.ensures _ c.if-first-lt128.false c.byte-second.ensures
    _ c.if-second-lt128.false c.byte-third.ensures c.if-third-eq0.true

pub returns : goal.returns
returns c =
    four_groups _ _ _ c.if-bytes-at.false c.byte-first.ensures _ c.if-first-lt128.false c.byte-second.ensures
    _ c.if-second-lt128.false c.byte-third.ensures c.if-third-lt128.false
