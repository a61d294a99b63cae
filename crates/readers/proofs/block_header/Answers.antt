use Rattle.std.proofs.lemmas.Result.{err_from_is_err_and}
use Rattle.readers.proofs.Shows.{head_room, header_shown_lem, header_refused}
use Rattle.readers.proofs.block_header.Goals as goal

pub returns-in_err-at : goal.returns-in_err-at
returns-in_err-at c =
    let p = err_from_is_err_and c.from_residual.result c.from_residual.ensures.1 in
    rw (p.1, p.2) (header_refused _ _ _ c.in_err-at.ensures)

pub read_header-requires : goal.read_header-requires
read_header-requires c = head_room _ _ _ c.in_ok-at.ensures

pub returns : goal.returns
returns c = header_shown_lem _ _ _ c.in_ok-at.ensures c.read_header.ensures
