-- Words and requests of a drill, by themselves (RFC 8439, section 2.3, with the stream's number as the nonce; RFC 9112,
-- section 2.1).
use Rattle.std.proofs.Common.{◌≡◌, ℕ, refl, replicate, codes}
use Rattle.std.specs.Fmt.{digits}
use Rattle.rand_core.specs.Steps.{u32_at}
use Rattle.rand_chacha.specs.Block.{block_word, double_rounds, diagonal_round, column_round, quarter_round}
use Rattle.drill_model.specs.Requests.{drill_word, request_of}

-- the first word under the seed of zeros
first_word : drill_word (replicate 32 0) 0 ≡ 1925117666
unfolding block_word double_rounds diagonal_round column_round quarter_round u32_at
first_word = refl

-- 1925117666 is 2 to base 16 at last, 14 before that, and 3 before that
creates : request_of 1925117666
    ≡ codes "POST /v1.43/containers/create?name=box-14 HTTP/1.1\r\nHost: x\r\nContent-Length: 119\r\n\r\n{\"Cmd\":[\"flaky\",\"2\"],\"HostConfig\":{\"RestartPolicy\":{\"MaximumRetryCount\":5,\"Name\":\"on-failure\"}},\"Image\":\"engine/tools\"}"
unfolding request_of digits
creates = refl

starts : request_of 3 ≡ codes "POST /v1.43/containers/box-0/start HTTP/1.1\r\nHost: x\r\n\r\n"
unfolding request_of digits
starts = refl

stops : request_of 22 ≡ codes "POST /v1.43/containers/box-1/stop?t=1 HTTP/1.1\r\nHost: x\r\n\r\n"
unfolding request_of digits
stops = refl

-- behind the last box comes the first again
renames : request_of 507 ≡ codes "POST /v1.43/containers/box-31/rename?name=box-0 HTTP/1.1\r\nHost: x\r\n\r\n"
unfolding request_of digits
renames = refl

removes : request_of 13 ≡ codes "DELETE /v1.43/containers/box-0?force=1 HTTP/1.1\r\nHost: x\r\n\r\n"
unfolding request_of digits
removes = refl

lists : request_of 14 ≡ codes "GET /v1.43/containers/json?all=1 HTTP/1.1\r\nHost: x\r\n\r\n"
unfolding request_of
lists = refl

inspects : request_of 31 ≡ codes "GET /v1.43/containers/box-1/json HTTP/1.1\r\nHost: x\r\n\r\n"
unfolding request_of digits
inspects = refl
