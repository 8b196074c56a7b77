use Rattle.base_text.proofs.+put_digits.Given as goal

-- Each call is passed a tenth of the number.
abbrev pub decreases-put_digits : goal.decreases-put_digits
decreases-put_digits l = l.n
