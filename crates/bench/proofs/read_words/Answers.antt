-- `bench::read_words` meets its contract: every chunk has room for its words, and the chunks become the words one after the other.
use Rattle.std.proofs.Common.{rules, arith, ◌≡◌, ◌≤◌, ◌/◌, ◌++◌, [], ap, is_ok, length, take, inl, inr, length-take-le, length-append}
use Rattle.std.proofs.KnownBytes.{Consumes-trans, Consumes-nil}
use Rattle.verdict.specs.Promise.{Leaves}
use Rattle.verdict.specs.Verdict.{numbered}
use Rattle.std.specs.Prelude.{Ok}
use Rattle.words.specs.Words.{words_count, to_words, filled}
use Rattle.bench.proofs.Reading.{rest_of, room, made, is_made, leaves_made, none_yet, last_of, next_of, all_of}
use Rattle.bench.proofs.read_words.Goals as goal
use Rattle.bench.proofs.read_words.Goals.{In_ok-got, After-unwrap-converted}

-- a chunk has room for its words
has_room : (g : _) (c : In_ok-got g) → words_count (take c.in_ok-got.got c.read_front.new.bytes) ≤ length (rest_of c.loop-count.words c.loop-count.count)
has_room g c =
    let at = c.loop-count in
    room c.read_front.new.bytes at.words c.in_ok-got.got at.count c.in_ok-got.ensures.count (search rules) at.invariant.1 at.invariant.3 c.loop-count-test.true

-- it becomes a word for each two of its bytes
converts : (g : _) (c : After-unwrap-converted g) → Leaves (to_words (take c.in_ok-got.got c.read_front.new.bytes) (rest_of c.loop-count.words c.loop-count.count))
    (filled (take c.in_ok-got.got c.read_front.new.bytes) (rest_of c.loop-count.words c.loop-count.count)) (numbered (Ok c.unwrap-converted.result)) c.to_words.new.words
converts g c = leaves_made _ _ _ c.unwrap-converted.result c.unwrap-converted.ensures c.to_words.ensures.answer c.to_words.ensures.words

halved : (g : _) (c : After-unwrap-converted g) → c.unwrap-converted.result.count ≡ c.in_ok-got.got / 2
halved g c =
    let at = c.loop-count in
    made c.read_front.new.bytes at.words c.in_ok-got.got at.count c.in_ok-got.ensures.count (search rules) at.invariant.1 at.invariant.3 c.loop-count-test.true (converts g c)

pub unwrap-converted-requires : goal.unwrap-converted-requires
unwrap-converted-requires g c = ap is_ok (is_made _ _ (has_room g (goal.at.unwrap-converted-requires g c).In_ok-got) c.to_words.result c.to_words.ensures.answer)

pub overflow_add-count : goal.overflow_add-count
overflow_add-count g c = search (rules, halved g (goal.at.overflow_add-count g c).After-unwrap-converted)

pub returns-then-got-bytes-clause-count : goal.returns-then-got-bytes-clause-count
returns-then-got-bytes-clause-count g c = search (rules, halved g (goal.at.returns-then-got-bytes-clause-count g c).After-unwrap-converted)

pub loop-count-smaller : goal.loop-count-smaller
loop-count-smaller g c = search (rules, halved g (goal.at.loop-count-smaller g c).After-unwrap-converted)

pub returns-then-got-bytes-clause-front : goal.returns-then-got-bytes-clause-front
returns-then-got-bytes-clause-front g c =
    let there = goal.at.returns-then-got-bytes-clause-front g c in
    let at = c.loop-count in
    let part = take c.in_ok-got.got c.read_front.new.bytes in
    let (taken, took, long, so_far) = at.invariant.4 in (
      taken ++ part,
      Consumes-trans _ _ _ _ _ took c.in_ok-got.ensures.took,
      last_of taken c.args.words.now at.count at.words so_far (search rules) part (has_room g there.In_ok-got) (converts g there.After-unwrap-converted),
      inr (c.in_ok-got.ensures.end c.if-got-bytes.true),
    )

pub loop-count-preserved : goal.loop-count-preserved
loop-count-preserved g c =
    let there = goal.at.loop-count-preserved g c in
    let at = c.loop-count in
    let got = c.in_ok-got.got in
    let part = take got c.read_front.new.bytes in
    let many = halved g there.After-unwrap-converted in
    let (taken, took, long, so_far) = at.invariant.4 in
    let full : got ≡ 2048 = search rules in
    let size = length-take-le got c.read_front.new.bytes c.in_ok-got.ensures.count in (
      search rules,
      search rules,
      search (rules, many),
      search (rules, many),
      (
        taken ++ part,
        Consumes-trans _ _ _ _ _ took c.in_ok-got.ensures.took,
        omega (arith, length-append taken part, size, long, full, many),
        next_of taken c.args.words.now at.count at.words so_far (search rules) part (has_room g there.In_ok-got) (converts g there.After-unwrap-converted) (omega (arith, size, full)),
      ),
    )

pub loop-count-init : goal.loop-count-init
loop-count-init g c = (search rules, search rules, search rules, search rules, ([], Consumes-nil _, search rules, none_yet _))

pub returns-clause-front : goal.returns-clause-front
returns-clause-front g c =
    let at = c.loop-count in
    let (taken, took, long, so_far) = at.invariant.4 in
    (taken, took, all_of taken c.args.words.now at.count at.words so_far c.loop-count-test.false, inl (omega (arith, long, at.invariant.1, c.loop-count-test.false)))
