-- One byte more, if there is room for it.
use Rattle.check_coverage.proofs.Bytes.{added_marks}
use Rattle.check_coverage.proofs.marks.Marks.mark.Goals as goal

pub returns : goal.returns
returns c = λ size bytes span was.
    added_marks size bytes c.args.span c.args.given c.args.self.now span was c.ranges.span.fits c.if-self-span.false
    c.keeps-self.result c.keeps-self-2.result c.keeps-self-3.result c.keeps-self-4.result c.count_more-self.result
    c.keeps-self.ensures c.keeps-self-2.ensures c.keeps-self-3.ensures c.keeps-self-4.ensures c.count_more-self.ensures
