use Rattle.std.proofs.Common.{arith}
use Rattle.path_rows.proofs.Words.{holds}
use Rattle.path_rows.proofs.prefix.+word_after.Goals as goal

pub overflow_mul-word : goal.overflow_mul-word
overflow_mul-word t c = let h = holds c.args.word c.args.count (omega (arith, c.if-count-eq0.false)) c.requires.few c.requires.fits in omega (arith, h.fits)

pub word_after-requires : goal.word_after-requires
word_after-requires t c =
    let h = holds c.args.word c.args.count (omega (arith, c.if-count-eq0.false)) c.requires.few c.requires.fits in
    (omega (arith, c.decreases, c.if-count-eq0.false), (omega (arith, c.requires.few), omega (arith, h.next)))

pub overflow_mul-word-then-first-lt255 : goal.overflow_mul-word-then-first-lt255
overflow_mul-word-then-first-lt255 t c = let h = holds c.args.word c.args.count (omega (arith, c.if-count-eq0.false)) c.requires.few c.requires.fits in omega (arith, h.fits)

pub overflow_add-word : goal.overflow_add-word
overflow_add-word t c =
    let h = holds c.args.word c.args.count (omega (arith, c.if-count-eq0.false)) c.requires.few c.requires.fits in omega (arith, h.fits, c.from.ensures, c.if-first-lt255.true)

pub word_after-requires-then-first-lt255 : goal.word_after-requires-then-first-lt255
word_after-requires-then-first-lt255 t c =
    let h = holds c.args.word c.args.count (omega (arith, c.if-count-eq0.false)) c.requires.few c.requires.fits in
    (omega (arith, c.decreases, c.if-count-eq0.false), (omega (arith, c.requires.few), omega (arith, h.next, c.from.ensures, c.if-first-lt255.true)))

pub overflow_mul-word-else-first-lt255 : goal.overflow_mul-word-else-first-lt255
overflow_mul-word-else-first-lt255 t c = let h = holds c.args.word c.args.count (omega (arith, c.if-count-eq0.false)) c.requires.few c.requires.fits in omega (arith, h.fits)

pub overflow_add-word-else-first-lt255 : goal.overflow_add-word-else-first-lt255
overflow_add-word-else-first-lt255 t c = let h = holds c.args.word c.args.count (omega (arith, c.if-count-eq0.false)) c.requires.few c.requires.fits in omega (arith, h.fits)

pub word_after-requires-else-first-lt255 : goal.word_after-requires-else-first-lt255
word_after-requires-else-first-lt255 t c =
    let h = holds c.args.word c.args.count (omega (arith, c.if-count-eq0.false)) c.requires.few c.requires.fits in
    (omega (arith, c.decreases, c.if-count-eq0.false), (omega (arith, c.requires.few), omega (arith, h.next)))
