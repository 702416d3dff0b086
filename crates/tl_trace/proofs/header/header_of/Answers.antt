use Rattle.tl_trace.proofs.Names.{sym, ap, ◌∙◌, Option, find, option_or, Header, headers_of, is_header_of}
use Rattle.tl_trace.proofs.Headers.{of_versions}
use Rattle.tl_trace.proofs.header.header_of.Goals as goal

pub returns-in-Some : goal.returns-in-Some
returns-in-Some c =
    let second = find (is_header_of c.args.text.now) (headers_of 2) in
    sym (of_versions c.args.text.now ∙ ap (λ (first : Option Header). option_or first second) (sym c.header_in.ensures ∙ c.in-Some.is))

pub returns-in-None : goal.returns-in-None
returns-in-None c =
    let second = find (is_header_of c.args.text.now) (headers_of 2) in
    c.header_in-in-None.ensures
    ∙ sym (of_versions c.args.text.now ∙ ap (λ (first : Option Header). option_or first second) (sym c.header_in.ensures ∙ c.in-None.is))
